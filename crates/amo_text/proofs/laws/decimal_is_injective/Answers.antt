use Rattle.std.proofs.lemmas.Fmt.{decimal_injective}
use Rattle.amo_text.proofs.laws.decimal_is_injective.Goals as goal

pub returns : goal.returns
returns c = decimal_injective
