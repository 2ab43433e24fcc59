use Rattle.std.proofs.Common.{refl}
use Rattle.amo_host.proofs.pump.Pump.turn_with.Goals as goal

pub returns-in-Err-clause-turned : goal.returns-in-Err-clause-turned
returns-in-Err-clause-turned g c = ((c.in-Err.ensures.fault c.in-Err.fault).0 refl, (refl, refl, refl))
