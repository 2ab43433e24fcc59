use Rattle.std.proofs.Common.{take}
use Rattle.std.specs.List.{AllByRecursion}
use Rattle.amo_packet.specs.Message.{IsShort}
use Rattle.amo_packet.proofs.parts.Parts.of.Given as goal

abbrev pub invariant-loop-message : goal.invariant-loop-message
invariant-loop-message l = AllByRecursion IsShort (take l.message-index l.held)
