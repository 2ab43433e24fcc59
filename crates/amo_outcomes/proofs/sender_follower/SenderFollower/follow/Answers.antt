use Rattle.amo_outcomes.proofs.SenderFollowing.{followed_by_act, followed_by_other}
use Rattle.amo_outcomes.proofs.sender_follower.SenderFollower.follow.Goals as goal

pub returns-in_ok-act-in-Sender : goal.returns-in_ok-act-in-Sender
returns-in_ok-act-in-Sender c = λ past right follows.
    followed_by_act c.args.self.now c.act.new.self past c.args.event.now right follows c.in-Sender.is c.in_ok-act-in-Sender.ensures.sender
    c.in_ok-act-in-Sender.ensures.places

pub returns-in-Receiver : goal.returns-in-Receiver
returns-in-Receiver c = λ past right follows.
    followed_by_other c.args.self.now c.args.self.now past c.args.event.now right follows c.in-Receiver.is
