use Rattle.amo_text.proofs.Readings.{no_more, behind}
use Rattle.amo_schedule.specs.Schedule.{fields_of, InRange}
use Rattle.amo_schedule.proofs.Reading.{IsLine-fields_of}
use Rattle.amo_schedule.proofs.schedule.Schedule.next_line.Goals as goal

pub returns-in_default-clause-end : goal.returns-in_default-clause-end
returns-in_default-clause-end c =
    let empty = no_more fields_of InRange IsLine-fields_of _ c.self.invariant (rw c.in_default.is at c.in_ok-line.ensures.none) in
    (cc (c.self.view_is, empty), cc (c.self.view_is, empty))

pub invariant_of-self : goal.invariant_of-self
invariant_of-self c =
    let here = rw c.in-Some.is at c.in_ok-line.ensures.some in
    behind fields_of InRange IsLine-fields_of c.self.inside.rest.now _ _ c.self.invariant here.0 here.1

pub returns-clause-left : goal.returns-clause-left
returns-clause-left c =
    let here = rw c.in-Some.is at c.in_ok-line.ensures.some in
    behind fields_of InRange IsLine-fields_of c.self.inside.rest.now _ _ c.self.invariant here.0 here.1
