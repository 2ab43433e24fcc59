use Rattle.std.proofs.Common.{sym, ◌∙◌}
use Rattle.amo_packet.proofs.Spellings.{Spells-unique}
use Rattle.amo_packet.proofs.laws.spellings_are_unique.Goals as goal

pub returns-clause-packet : goal.returns-clause-packet
returns-clause-packet c = Spells-unique

pub returns-clause-spelling : goal.returns-clause-spelling
returns-clause-spelling c = λ v w a b p s t. s.exact ∙ sym t.exact
