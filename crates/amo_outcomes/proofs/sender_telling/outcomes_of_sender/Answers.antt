use Rattle.std.proofs.Common.{◌≡◌, List, reverse, rules, sym, subst}
use Rattle.amo_outcomes.specs.declared.sender_follower.SenderFollower.{SenderFollower}
use Rattle.amo_outcomes.specs.SenderFollower.{SendersFollowed}
use Rattle.amo_outcomes.proofs.sender_telling.outcomes_of_sender.Goals as goal

pub returns : goal.returns
returns c =
    let same : c.as_slice.result.now ≡ c.in_ok-followers.followers.items = search rules in
    c.in_ok-tell.ensures (reverse c.args.events.now)
    (subst (λ (followers : List SenderFollower). SendersFollowed followers (reverse c.args.events.now)) (sym same) c.in_ok-followers.ensures)
