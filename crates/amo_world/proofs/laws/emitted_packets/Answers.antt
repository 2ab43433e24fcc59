use Rattle.amo_world.proofs.Emitted.{bears_number, what_stands}
use Rattle.amo_world.proofs.laws.emitted_packets.Goals as goal

pub returns-clause-bears : goal.returns-clause-bears
returns-clause-bears c = bears_number

pub returns-clause-emitted : goal.returns-clause-emitted
returns-clause-emitted c = what_stands
