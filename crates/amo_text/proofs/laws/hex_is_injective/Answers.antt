use Rattle.amo_text.proofs.HexDigits.{hex-injective}
use Rattle.amo_text.proofs.laws.hex_is_injective.Goals as goal

pub returns : goal.returns
returns c = hex-injective
