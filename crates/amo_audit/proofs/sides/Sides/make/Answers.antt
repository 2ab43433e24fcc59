use Rattle.std.proofs.lemmas.Result.{IfOk-weaker}
use Rattle.amo_audit.proofs.Kept.{sender_makes, receiver_makes}
use Rattle.amo_audit.proofs.sides.Sides.make.Goals as goal

pub returns-in-Sender : goal.returns-in-Sender
returns-in-Sender c = rw c.in-Sender.is (IfOk-weaker c.make.result _ _ (λ _ makes. sender_makes c.args.self.now c.make.new.self c.args.act makes) c.make.ensures)

pub returns-in-Receiver : goal.returns-in-Receiver
returns-in-Receiver c = rw c.in-Receiver.is (IfOk-weaker c.make-in-Receiver.result _ _ (λ _ makes. receiver_makes c.args.self.now c.make-in-Receiver.new.self c.args.act makes) c.make-in-Receiver.ensures)
