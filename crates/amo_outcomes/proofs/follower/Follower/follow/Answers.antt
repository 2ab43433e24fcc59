use Rattle.std.proofs.Common.{◌∷◌, sym, subst}
use Rattle.amo_outcomes.specs.declared.follower.Follower.{Follower}
use Rattle.amo_outcomes.specs.Follower.{IsFollowed}
use Rattle.amo_outcomes.proofs.Followed.{followed_at_sender, followed_at_receiver}
use Rattle.amo_outcomes.proofs.follower.Follower.follow.Goals.{in-Sender+in_ok-act_at_sender-in-Sender, in-Receiver}
use Rattle.amo_outcomes.proofs.follower.Follower.follow.Goals as goal

pub returns : goal.returns
returns c = λ past right honest fresh follows.
    let f = c.args.self.now in
    let e = c.args.event in
    elim c.match-side.branch [
      | in-Sender+in_ok-act_at_sender-in-Sender w ↦
          let steps = w.in_ok-act_at_sender-in-Sender.ensures in
          subst (λ (g : Follower). IsFollowed g e.stream (e ∷ past)) (sym w.self-is)
          (followed_at_sender f w.act_at_sender.new.self past e right honest fresh follows w.in-Sender.is steps.sender steps.receiver steps.accepted steps.places)
      | in-Receiver w ↦
          let steps = w.act_at_receiver.ensures in
          subst (λ (g : Follower). IsFollowed g e.stream (e ∷ past)) (sym w.self-is)
          (followed_at_receiver f w.act_at_receiver.new.self past e right honest fresh follows w.in-Receiver.is steps.sender steps.receiver steps.accepted steps.places)
    ]
