use Rattle.std.proofs.Common.{◌≡◌, ◌++◌, ◌∷◌, [], true, false, List, Option, None, refl, sym, ap, subst, ◌∙◌}
use Rattle.std.specs.Option.{option_to_list}
use Rattle.std.proofs.lemmas.List.{append-nil}
use Rattle.amo_world.specs.declared.event.Event.{Event}
use Rattle.amo_audit.specs.Reader.{HasRead}
use Rattle.amo_audit.proofs.Reader.{looks_nothing}
use Rattle.amo_audit.proofs.Together.{is_none}
use Rattle.amo_audit.proofs.journal_reader.JournalReader.look.Goals as goal

pub returns-then-is_some-clause-looks : goal.returns-then-is_some-clause-looks
returns-then-is_some-clause-looks c = λ pieces events has.
    looks_nothing c.args.self.now _ pieces events has refl refl refl (λ text was. subst (λ (es : List Event). HasRead c.args.self.now.events text es) (sym (append-nil events)) was) (λ o. o)

pub returns-in-Read-clause-looks : goal.returns-in-Read-clause-looks
returns-in-Read-clause-looks c = λ pieces events has.
    let none = is_none c.args.self.now.next _ c.is_some.ensures c.if-is_some.false in record {
      fresh = c.in-Read.event ∷ [];
      come = record {
        text = has.text;
        is_text = has.is_text;
        goes_on = has.goes_on;
        read = (rw c.in-Read.is at c.in_ok-event.ensures.read) has.text events has.read;
        sides = c.add.ensures events has.sides;
        stream = rw c.in-Read.is at c.in_ok-event.ensures.stream;
      };
      next = ap (λ (n : Option Event). option_to_list n ++ c.in-Read.event ∷ []) (sym none);
      over = λ o. let wrong : true ≡ false = sym o ∙ c.if-self.false in cc;
    }

pub returns-in-Waits-clause-looks : goal.returns-in-Waits-clause-looks
returns-in-Waits-clause-looks c = λ pieces events has.
    looks_nothing c.args.self.now _ pieces events has refl refl refl (λ text was. (rw c.in-Waits.is at c.in_ok-event.ensures.read) text events was) (λ o. o)

pub returns-in-Waits-2-clause-looks : goal.returns-in-Waits-2-clause-looks
returns-in-Waits-2-clause-looks c = λ pieces events has.
    looks_nothing c.args.self.now _ pieces events has refl refl refl (λ text was. (rw c.in-Waits-2.is at c.in_ok-event.ensures.read) text events was) (λ o. refl)

pub returns-in-Waits-3-clause-looks : goal.returns-in-Waits-3-clause-looks
returns-in-Waits-3-clause-looks c = λ pieces events has.
    looks_nothing c.args.self.now _ pieces events has refl refl refl (λ text was. (rw c.in-Waits-3.is at c.in_ok-event.ensures.read) text events was) (λ o. o)

pub returns-in-Fault-clause-looks : goal.returns-in-Fault-clause-looks
returns-in-Fault-clause-looks c = λ pieces events has.
    looks_nothing c.args.self.now _ pieces events has refl refl refl (λ text was. (rw c.in-Fault.is at c.in_ok-event.ensures.read) text events was) (λ o. o)
