use Rattle.std.proofs.Common.{ap, refl}
use Rattle.std.specs.Prelude.{option_copied}
use Rattle.amo_door.proofs.call.read_claimed.Goals as goal

pub returns-in-None-clause-refused : goal.returns-in-None-clause-refused
returns-in-None-clause-refused c = λ side. (c.in-Some.text.now, refl, ap option_copied c.in-Some.is, c.in-None.ensures.none)
