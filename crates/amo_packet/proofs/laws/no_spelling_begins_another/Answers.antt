use Rattle.amo_packet.proofs.Spellings.{spelling-cancel}
use Rattle.amo_packet.proofs.laws.no_spelling_begins_another.Goals as goal

pub returns : goal.returns
returns c = spelling-cancel
