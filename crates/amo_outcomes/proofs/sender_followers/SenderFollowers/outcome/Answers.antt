use Rattle.std.proofs.Common.{ℕ, List, Option, None, Some, IfSome}
use Rattle.amo_world.specs.declared.event.Event.{Event}
use Rattle.amo_outcomes.specs.declared.sender_outcome.SenderOutcome.{SenderOutcome}
use Rattle.amo_outcomes.specs.SenderFollower.{IsSenderFollowed}
use Rattle.amo_outcomes.proofs.SenderFollowing.{sender_followed_of}
use Rattle.amo_outcomes.proofs.sender_followers.SenderFollowers.outcome.Goals as goal

pub returns-clause-none : goal.returns-clause-none
returns-clause-none c = λ none past all. c.told.ensures.none none c.args.stream past (sender_followed_of c.args.self.now.of_streams.items past c.args.stream c.index.result.now c.requires.stream all c.index.ensures)

pub returns-clause-some : goal.returns-clause-some
returns-clause-some c = weaker c.told.result c.told.ensures.some
  where
    weaker : (found : Option SenderOutcome) → IfSome found (λ outcome. (number : ℕ) (past : List Event) → IsSenderFollowed c.index.result.now number past → Rattle.amo_outcomes.specs.SenderOutcome.HasSenderOutcome number past c.args.put outcome)
        → IfSome found (λ outcome. (past : List Event) → Rattle.amo_outcomes.specs.SenderFollowers.HaveFollowedSenders c.args.self.now past → Rattle.amo_outcomes.specs.SenderOutcome.HasSenderOutcome c.args.stream past c.args.put outcome)
    weaker None told = tt
    weaker (Some outcome) told = λ past all. told c.args.stream past (sender_followed_of c.args.self.now.of_streams.items past c.args.stream c.index.result.now c.requires.stream all c.index.ensures)
