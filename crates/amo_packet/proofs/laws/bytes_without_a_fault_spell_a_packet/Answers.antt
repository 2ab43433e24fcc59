use Rattle.amo_packet.proofs.Numbers.{AreBytes-from_All}
use Rattle.amo_packet.proofs.Faults.{first_fault-spelt}
use Rattle.amo_packet.proofs.Faultless.{Spells-no_fault}
use Rattle.amo_packet.proofs.laws.bytes_without_a_fault_spell_a_packet.Goals as goal

pub returns-clause-spelt : goal.returns-clause-spelt
returns-clause-spelt c = λ newest bytes fits. Spells-no_fault newest bytes (AreBytes-from_All bytes fits)

pub returns-clause-no_fault : goal.returns-clause-no_fault
returns-clause-no_fault c = first_fault-spelt
