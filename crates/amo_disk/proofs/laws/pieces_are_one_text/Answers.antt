use Rattle.amo_disk.proofs.Together.{one_text}
use Rattle.amo_disk.proofs.laws.pieces_are_one_text.Goals as goal

pub returns : goal.returns
returns c = one_text
