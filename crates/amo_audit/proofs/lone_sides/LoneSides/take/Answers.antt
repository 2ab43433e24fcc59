use Rattle.std.proofs.lemmas.Result.{on_ok_weaker}
use Rattle.amo_audit.proofs.Lone.{receiver_takes, sender_takes}
use Rattle.amo_audit.proofs.lone_sides.LoneSides.take.Goals as goal

pub returns-in-Sender-clause-taken : goal.returns-in-Sender-clause-taken
returns-in-Sender-clause-taken c = rw c.in-Sender.is (on_ok_weaker c.take.result (sender_takes c.args.self.now c.take.new.self c.args.event.now.act c.args.event.now.reply) c.take.ensures.taken)

pub returns-in-Receiver-clause-taken : goal.returns-in-Receiver-clause-taken
returns-in-Receiver-clause-taken c =
    rw c.in-Receiver.is (on_ok_weaker c.take-in-Receiver.result (receiver_takes c.args.self.now c.take-in-Receiver.new.self c.args.event.now.act c.args.event.now.reply) c.take-in-Receiver.ensures.taken)
