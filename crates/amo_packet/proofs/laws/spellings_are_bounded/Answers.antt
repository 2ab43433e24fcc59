use Rattle.amo_packet.proofs.Spellings.{length-spelling, spelling_short, spelling_short_1}
use Rattle.amo_packet.proofs.laws.spellings_are_bounded.Goals as goal

pub returns-clause-length_of : goal.returns-clause-length_of
returns-clause-length_of c = length-spelling

pub returns-clause-bounded : goal.returns-clause-bounded
returns-clause-bounded c = spelling_short

pub returns-clause-bounded_1 : goal.returns-clause-bounded_1
returns-clause-bounded_1 c = spelling_short_1
