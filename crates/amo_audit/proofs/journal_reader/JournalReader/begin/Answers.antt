use Rattle.std.proofs.Common.{◌++◌, ◌∷◌, List, ℕ, drop, refl, subst}
use Rattle.std.proofs.lemmas.List.{take_rest}
use Rattle.amo_audit.specs.Reader.{HasRead}
use Rattle.amo_audit.proofs.Reader.{may_go_on, piece_begins}
use Rattle.amo_audit.proofs.journal_reader.JournalReader.begin.Goals as goal

pub returns-clause-piece : goal.returns-clause-piece
returns-clause-piece g c = λ _.
    let old = c.args.self.now.events in
    let begun = c.in_ok-begun.begun.items in
    let leaves = rw c.version.ensures at (rw c.as_slice.ensures.value at c.in-Some.ensures.leaves) in (
      begun,
      c.in_ok-begun.ensures.bytes,
      (refl, refl),
      λ pieces events has.
          let whole = (c.is_whole.ensures has.text events has.read).0 c.if-not-is_whole.false in
          record {
            text = has.text ++ drop c.in-Some.count begun;
            is_text = piece_begins old.version (drop old.read old.text.items) has.text begun c.in-Some.count events pieces has.read.read whole leaves has.is_text;
            goes_on = λ on. may_go_on old.version (drop old.read old.text.items) has.text begun c.in-Some.count events pieces has.read.read whole leaves (rw c.as_slice-3.ensures.value at (c.is_past_heading-self.ensures.long on)) has.is_text;
            read = subst (λ (t : List ℕ). HasRead c.push.new.self (has.text ++ t) events) (take_rest begun c.in-Some.count) (rw c.as_slice-2.ensures.value at (c.in_ok-push.ensures has.text events has.read));
            sides = has.sides;
            stream = has.stream;
          },
    )
