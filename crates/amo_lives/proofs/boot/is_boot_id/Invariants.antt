use Rattle.std.proofs.Common.{ℕ, ◌<◌}
use Rattle.std.specs.Prelude.{IsTrue, slice_index}
use Rattle.amo_lives.specs.Boot.{fits, form}
use Rattle.amo_lives.proofs.boot.is_boot_id.Given as goal

-- each byte before this place fits
abbrev pub invariant-loop-place : goal.invariant-loop-place
invariant-loop-place l = (k : ℕ) → k < l.place → IsTrue (fits (slice_index form k) (slice_index l.text k))
