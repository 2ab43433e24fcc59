use Rattle.amo_call.specs.Takes.{ComesToTake, TakesBy}
use Rattle.amo_call.specs.Turns.{HasTake}
use Rattle.amo_call.proofs.taking.take.Given as goal

-- the file has what is told, or the call that is made next, and the take came to that
abbrev pub invariant-turns : goal.invariant-turns
invariant-turns g l =
    let C = g.C.Caller in
    HasTake (C.saved l.caller) l.after × ComesToTake C.heard l.fn.stream (TakesBy C.heard l.fn.stream l.fn.by l.fn.found) (C.is_silent l.caller) (C.saved l.caller) l.after
