use Rattle.std.proofs.Common.{subst}
use Rattle.amo_call.specs.declared.putting.AfterPut.{AfterPut}
use Rattle.amo_call.specs.Puts.{ComesTo, HasPut}
use Rattle.amo_call.proofs.Puts.{turns_on}
use Rattle.amo_call.proofs.putting.put.Goals as goal

pub turns-preserved : goal.turns-preserved
turns-preserved g c =
    let C = g.C.Caller in
    let order = c.args.order.now in
    let reached = ComesTo C.heard order c.args.found in
    let before = c.turns.caller in
    let turn = subst (λ (a : AfterPut). HasPut C.heard order reached (C.is_fresh before) (C.is_silent before) (C.saved before) a) c.in-Turn.is c.turns.invariant in
    let caller = c.make.new.caller in
    turns_on C.heard order c.args.found (C.is_fresh caller) (C.is_silent caller) (C.saved caller) c.in_ok-after-in-Turn.after c.in-Turn.turn.kept turn.is_reached c.in_ok-after-in-Turn.ensures
