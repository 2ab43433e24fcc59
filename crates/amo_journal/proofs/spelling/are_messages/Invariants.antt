use Rattle.std.specs.List.{AllWithin}
use Rattle.amo_packet.specs.Batch.{messages}
use Rattle.amo_text.specs.Message.{IsMessage}
use Rattle.amo_journal.proofs.spelling.are_messages.Given as goal

-- each message so far keeps to its limit
abbrev pub invariant-loop-index : goal.invariant-loop-index
invariant-loop-index l = AllWithin IsMessage (messages l.fn.batch) 0 l.index
