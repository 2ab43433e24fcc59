use Rattle.amo_packet.specs.Batch.{messages}
use Rattle.amo_packet.specs.Packet.{batch_of}
use Rattle.amo_packet.proofs.Written.{messages_written}
use Rattle.amo_packet.proofs.writer.+write_messages.Goals as goal

pub returns-in-Some : goal.returns-in-Some
returns-in-Some t c =
    let rest = rw c.in-Some.is at c.split_first.ensures.rest in
    messages_written (batch_of c.args.batch.now) c.split_first.result.0.now (messages (batch_of c.in-Some.rest)) c.args.buffer.now c.write_message.new.buffer c.write_messages.new.buffer c.split_first.ensures.first rest c.write_message.ensures c.write_messages.ensures
