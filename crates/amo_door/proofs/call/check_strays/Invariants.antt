use Rattle.std.proofs.Common.{◌≡◌, ◌<◌, ℕ, get_or, false}
use Rattle.amo_door.specs.declared.query.Parameter.TheVariants.{Life}
use Rattle.amo_door.specs.Call.{strays}
use Rattle.amo_door.specs.Query.{given_of}
use Rattle.amo_door.proofs.call.check_strays.Given as goal

-- none of those so far strays
abbrev pub invariant-loop-parameter : goal.invariant-loop-parameter
invariant-loop-parameter l = (k : ℕ) → k < l.parameter-index → strays l.method l.place (given_of l.query) (get_or l.parameter-items k Life) ≡ false
