use Rattle.amo_packet.proofs.Ties.{packets_tie}
use Rattle.amo_packet.proofs.laws.packets_that_tie_are_one.Goals as goal

pub returns : goal.returns
returns c = packets_tie
