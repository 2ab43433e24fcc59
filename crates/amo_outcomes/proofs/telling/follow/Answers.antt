use Rattle.amo_outcomes.proofs.Streams.{followed_more}
use Rattle.amo_outcomes.proofs.telling.follow.Goals as goal

pub returns-clause-followed : goal.returns-clause-followed
returns-clause-followed c = λ past right honest fresh all.
    followed_more c.args.followers.now.items c.args.event c.index_mut-follower.result.now c.follow.new.self c.requires.stream
    c.index_mut-follower.ensures.value past (c.in_ok-follow.ensures past right honest fresh) all
