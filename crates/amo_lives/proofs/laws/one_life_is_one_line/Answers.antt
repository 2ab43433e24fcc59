use Rattle.amo_lives.proofs.Files.{one_more}
use Rattle.amo_lives.proofs.laws.one_life_is_one_line.Goals as goal

pub returns-clause-lives : goal.returns-clause-lives
returns-clause-lives c = one_more
