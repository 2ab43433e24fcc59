use Rattle.std.proofs.Common.{◌≡◌, ◌⊎◌, List, ℕ, inr, ap, ◌∙◌, rules, subst, true}
use Rattle.amo_door.specs.Connection.{ConnectionState, Extends, SpellsAnswer, counted, over}
use Rattle.amo_door.proofs.Onward.{closes_knowing, closes_on, counted_knowing, goes_on_twice, knows_on, output_knowing, write_goes_on}
use Rattle.amo_door.proofs.Settled.{spells_closed}
use Rattle.amo_door.proofs.connection.Connection.refuse.Goals as goal

-- the answer was written, and then no more is read
pub returns-clause-goes_on : goal.returns-clause-goes_on
returns-clause-goes_on c =
    goes_on_twice c.args.self.now c.write.new.self c.close.new.self
    (goes_on_twice c.args.self.now c.note_method.new.self c.write.new.self (knows_on c.args.self.now c.note_method.new.self c.note_method.ensures)
    (write_goes_on c.write.result c.note_method.new.self c.write.new.self c.write.ensures.output c.write.ensures.counts c.write.ensures.ok c.write.ensures.err))
    (closes_on c.write.new.self c.close.new.self c.close.ensures)

pub returns-clause-spelt : goal.returns-clause-spelt
returns-clause-spelt c =
    let says = c.in_ok-answer.ensures in (
      c.in_ok-answer.answer,
      record { status = says.head.0; kind = says.head.1; extra = says.head.2; body = says.body },
      subst (λ (s : ConnectionState). SpellsAnswer c.in_ok-answer.answer true s c.close.new.self) c.note_method.ensures
          (spells_closed _ _ _ _ c.write.new.self c.close.new.self c.in_ok-write.ensures.spelt c.close.ensures),
    )

-- memory was refused where the answer was written
pub returns-in_err-write-clause-refused : goal.returns-in_err-write-clause-refused
returns-in_err-write-clause-refused c =
    let old = c.args.self.now in let told = c.write.new.self in
    let came : (told ≡ old) ⊎ ((output : List ℕ) × Extends old.output output × (told ≡ over (counted old output told.server))) =
    inr (told.output, output_knowing old c.note_method.new.self told.output c.note_method.ensures c.write.ensures.output, c.in_err-write.ensures.err ∙ ap over (counted_knowing old c.note_method.new.self told.output told.server c.note_method.ensures)) in
    search rules

pub returns-in_err-write-clause-goes_on : goal.returns-in_err-write-clause-goes_on
returns-in_err-write-clause-goes_on c =
    goes_on_twice c.args.self.now c.note_method.new.self c.write.new.self (knows_on c.args.self.now c.note_method.new.self c.note_method.ensures)
    (write_goes_on c.write.result c.note_method.new.self c.write.new.self c.write.ensures.output c.write.ensures.counts c.write.ensures.ok c.write.ensures.err)

pub returns-clause-refused : goal.returns-clause-refused
returns-clause-refused c =
    let old = c.args.self.now in let told = c.write.new.self in
    (told.output, output_knowing old c.note_method.new.self told.output c.note_method.ensures c.write.ensures.output, closes_knowing old c.note_method.new.self told c.close.new.self c.note_method.ensures c.in_ok-write.ensures.ok c.close.ensures)
