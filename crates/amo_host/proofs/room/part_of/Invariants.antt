use Rattle.std.proofs.Common.{◌≡◌, ℕ, ◌<◌, ◌+◌, ◌-◌, ◌*◌, length, slice_get}
use Rattle.amo_host.proofs.room.part_of.Given as goal

-- the places passed are in the part
abbrev pub invariant-loop-mode : goal.invariant-loop-mode
invariant-loop-mode l = record {
  place : l.place ≡ l.first + l.pumps * length l.part.items;
  each : (k : ℕ) → k < length l.part.items → slice_get l.part.items k ≡ slice_get l.modes (l.first + l.pumps * k);
}

abbrev pub decreases-loop-mode : goal.decreases-loop-mode
decreases-loop-mode l = length l.modes - l.place
