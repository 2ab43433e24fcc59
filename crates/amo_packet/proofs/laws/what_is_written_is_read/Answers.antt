use Rattle.std.proofs.Common.{refl, arith}
use Rattle.amo_packet.specs.Grammar.{version_of, spelling}
use Rattle.amo_packet.proofs.Spellings.{Spells-unique}
use Rattle.amo_packet.proofs.Faults.{first_fault-spelling}
use Rattle.amo_packet.proofs.laws.what_is_written_is_read.Goals as goal

pub returns-clause-no_fault : goal.returns-clause-no_fault
returns-clause-no_fault c = first_fault-spelling

pub returns-clause-same : goal.returns-clause-same
returns-clause-same c = λ newest p q f s. Spells-unique newest (version_of p.body) (spelling p) q p s (record { version = omega arith; fits = f; exact = refl })
