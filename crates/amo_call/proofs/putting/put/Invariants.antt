use Rattle.amo_call.specs.Puts.{ComesTo, HasPut}
use Rattle.amo_call.proofs.putting.put.Given as goal

-- what is told, or the call that is made next, is one that the put came to
abbrev pub invariant-turns : goal.invariant-turns
invariant-turns g l =
    let C = g.C.Caller in HasPut C.heard l.fn.order (ComesTo C.heard l.fn.order l.fn.found) (C.is_fresh l.caller) (C.is_silent l.caller) (C.saved l.caller) l.after
