use Rattle.std.proofs.Common.{◌≡◌, ◌<◌, ◌≤◌, ◌-◌, ◌*◌, ◌%◌, ℕ, Some, length, slice_get}
use Rattle.std.specs.Prelude.{vec_capacity}
use Rattle.amo_world.specs.declared.row.Row.{Row}
use Rattle.amo_world.specs.Row.{IsShare}
use Rattle.amo_world.proofs.row.spread.Given as goal

abbrev pub invariant-loop-spread : goal.invariant-loop-spread
invariant-loop-spread l =
    (length l.spread.items ≤ l.count) × (l.count ≤ vec_capacity l.spread)
    × (l.count ≡ length l.rows * 2) × (0 < length l.rows)
    × ((number : ℕ) (row : Row) → slice_get l.rows (number % length l.rows) ≡ Some row → number < length l.spread.items
    → (share : Row) × (slice_get l.spread.items number ≡ Some share) × IsShare row number l.count share)

abbrev pub decreases-loop-spread : goal.decreases-loop-spread
decreases-loop-spread l = l.count - length l.spread.items
