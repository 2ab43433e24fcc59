use Rattle.std.proofs.Common.{inr}
use Rattle.amo_call.specs.Puts.{IsLate, PutsAnew}
use Rattle.amo_call.proofs.Puts.{goes_on_again}
use Rattle.amo_call.proofs.putting.look_back.Goals as goal

pub returns-then-turn : goal.returns-then-turn
returns-then-turn g c =
    let C = g.C.Caller in
    let caller = c.begin_again.new.caller in
    let first = c.requires.answered.first c.if-turn.true in
    goes_on_again C.heard c.args.order.now (C.is_fresh caller) (C.is_silent caller) (C.saved caller) c.begin_again.result c.args.turn.kept c.args.response c.requires.putting first
    (inr c.requires.status) (IsLate c.args.response first c.requires.status) c.begin_again.ensures

pub begin_again-requires : goal.begin_again-requires
begin_again-requires g c =
    PutsAnew c.args.turn.kept c.requires.saved c.requires.putting (IsLate c.args.response (c.requires.answered.first c.if-turn.true) c.requires.status)
