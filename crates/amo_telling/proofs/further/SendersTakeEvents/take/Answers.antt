use Rattle.std.proofs.Common.{◌≡◌, ◌∷◌, ◌++◌, [], reverse, subst, sym}
use Rattle.std.proofs.lemmas.Result.{on_ok_weaker}
use Rattle.amo_world.specs.History.{IsRight}
use Rattle.amo_outcomes.specs.SenderFollowers.{HaveFollowedSenders}
use Rattle.amo_telling.proofs.Counted.{turned_more}
use Rattle.amo_telling.proofs.further.SendersTakeEvents.take.Goals as goal

pub returns : goal.returns
returns c = on_ok_weaker c.follow.result (λ follows past counted has right.
    let turned : reverse (past ++ c.args.event ∷ []) ≡ c.args.event ∷ reverse past = turned_more past c.args.event in
    let now = subst IsRight turned right in
    subst (HaveFollowedSenders c.follow.new.self) (sym turned) (follows (reverse past) (λ m put. now.0) (has now.1))) c.follow.ensures
