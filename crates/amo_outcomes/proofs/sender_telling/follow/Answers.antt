use Rattle.amo_outcomes.proofs.SenderFollowing.{senders_followed_more}
use Rattle.amo_outcomes.proofs.sender_telling.follow.Goals as goal

pub returns-clause-followed : goal.returns-clause-followed
returns-clause-followed c = λ past right all.
    senders_followed_more c.args.followers.now.items c.args.event.now c.index_mut-follower.result.now c.follow.new.self c.requires.stream
    c.index_mut-follower.ensures.value past (c.in_ok-follow.ensures past right) all
