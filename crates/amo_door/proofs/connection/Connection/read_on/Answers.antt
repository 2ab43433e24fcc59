use Rattle.std.proofs.Common.{refl, subst, sym, rules, inr}
use Rattle.amo_door.specs.Connection.{ConnectionState, GoesOn, MayCome, over}
use Rattle.amo_door.specs.Requests.{MayStep, ReadsOn}
use Rattle.amo_door.proofs.Incoming.{reads_none, reads_none_at_end, steps_behind}
use Rattle.amo_door.proofs.Onward.{comes_behind, goes_on_same, goes_on_twice, over_on}
use Rattle.amo_door.proofs.connection.Connection.read_on.Goals as goal
use Rattle.amo_door.proofs.connection.Connection.read_on.Goals.{else-loop-event-test, in-Over, in_default, then-loop-event-test+in-Ok-None+then-ne}

pub loop-event-init : goal.loop-event-init
loop-event-init c = record { goes = goes_on_same c.args.self.now; stage = c.requires; read = λ came past has. reads_none c.args.reader.now came past c.args.self.now has }

-- one event behind others
pub loop-event-preserved : goal.loop-event-preserved
loop-event-preserved c = record {
  goes = subst (MayCome c.args.self.now c.read.new.self) c.in-Ok-None.field-0-is
      (comes_behind c.args.self.now c.loop-event.self c.read.new.self c.in-Ok-None.field-0 c.loop-event.invariant.goes c.in-Ok-None.ensures.ok);
  stage = search rules;
  read = λ came past has.
      let first = c.loop-event.invariant.read came past has in
      subst (MayStep c.args.reader.now came past c.read.new.self) c.in-Ok-None.field-0-is
      (steps_behind c.args.reader.now came past c.loop-event.self c.read.new.self first c.in-Ok-None.field-0 (c.in-Ok-None.ensures.read came _ first.has_read));
}

pub returns-in-Ok-Some : goal.returns-in-Ok-Some
returns-in-Ok-Some c = record {
  goes = subst (MayCome c.args.self.now c.read.new.self) c.in-Ok-Some.field-0-is
      (comes_behind c.args.self.now c.loop-event.self c.read.new.self c.in-Ok-Some.field-0 c.loop-event.invariant.goes c.in-Ok-Some.ensures.ok);
  read = λ came past has.
      let first = c.loop-event.invariant.read came past has in
      subst (MayStep c.args.reader.now came past c.read.new.self) c.in-Ok-Some.field-0-is
      (steps_behind c.args.reader.now came past c.loop-event.self c.read.new.self first c.in-Ok-Some.field-0 (c.in-Ok-Some.ensures.read came _ first.has_read));
}

-- memory was refused
pub returns-in-Err : goal.returns-in-Err
returns-in-Err c =
    let on = over_on c.args.self.now c.read.new.self (goes_on_twice c.args.self.now c.loop-event.self c.read.new.self c.loop-event.invariant.goes c.in-Err.ensures.err) in
    record {
      goes = (subst (λ (s : ConnectionState). GoesOn c.args.self.now (over s)) (sym c.self.view_is) on, refl);
      read = λ came past has. reads_none_at_end c.args.reader.now came past c.args.self.now _ (inr refl) has;
    }

-- no more can be read
pub returns-clause-read : goal.returns-clause-read
returns-clause-read c =
    λ came past has.
    let reader = c.args.reader.now in let last = c.loop-event-test.self in
    let here : ReadsOn reader came past last =
    elim c.loop-event-test.branch [
      | else-loop-event-test w ↦ subst (ReadsOn reader came past) (sym w.self-is) (c.loop-event.invariant.read came past has)
      | then-loop-event-test+in-Ok-None+then-ne w ↦
          let first = c.loop-event.invariant.read came past has in
          subst (ReadsOn reader came past) (sym w.self-is) (subst (MayStep reader came past w.read.new.self) w.in-Ok-None.field-0-is
          (steps_behind reader came past c.loop-event.self w.read.new.self first w.in-Ok-None.field-0 (w.in-Ok-None.ensures.read came _ first.has_read)))
    ] in
    elim c.match-self.branch [ in-Over w ↦ rw w.result-is here | in_default w ↦ rw w.result-is here ]
