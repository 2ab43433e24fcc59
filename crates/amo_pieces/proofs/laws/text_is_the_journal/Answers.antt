use Rattle.amo_pieces.proofs.Together.{is_the_journal}
use Rattle.amo_pieces.proofs.laws.text_is_the_journal.Goals as goal

pub returns : goal.returns
returns c = is_the_journal
