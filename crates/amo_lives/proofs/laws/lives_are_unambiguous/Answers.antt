use Rattle.amo_lives.proofs.Files.{one_file}
use Rattle.amo_lives.proofs.laws.lives_are_unambiguous.Goals as goal

pub returns : goal.returns
returns c = one_file
