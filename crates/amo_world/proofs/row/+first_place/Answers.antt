use Rattle.std.proofs.Common.{arith}
use Rattle.std.proofs.lemmas.Grind.{common_steps}
use Rattle.amo_world.proofs.row.+first_place.Goals as goal

-- said here since `search` would first look long, and in vain
pub returns-else-eq : goal.returns-else-eq
returns-else-eq c = grind (arith, common_steps)

pub returns-in_err-first : goal.returns-in_err-first
returns-in_err-first c = grind (arith, common_steps)
