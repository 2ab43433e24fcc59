use Rattle.std.proofs.Common.{refl}
use Rattle.rand_core.specs.Steps.{u32_at}
use Rattle.rand_chacha.specs.Block.{quarter_round, column_round, diagonal_round, double_rounds, block_word}
use Rattle.amo_word.proofs.laws.words_are_those_of_the_standard.Goals as goal

pub returns-clause-first : goal.returns-clause-first
unfolding u32_at quarter_round column_round diagonal_round double_rounds block_word
returns-clause-first c = refl

pub returns-clause-second : goal.returns-clause-second
unfolding u32_at quarter_round column_round diagonal_round double_rounds block_word
returns-clause-second c = refl

pub returns-clause-example : goal.returns-clause-example
unfolding u32_at quarter_round column_round diagonal_round double_rounds block_word
returns-clause-example c = refl
