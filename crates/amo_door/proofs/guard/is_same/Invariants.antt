use Rattle.std.proofs.Common.{◌≡◌, ◌≤◌, ◌↔◌, ℕ, ◌<◌, get_or}
use Rattle.amo_door.proofs.guard.is_same.Given as goal

-- no more bytes differ than were looked at, and none where all are the same
abbrev pub invariant-loop-place : goal.invariant-loop-place
invariant-loop-place l = record {
  few : l.differing ≤ l.place;
  none : l.differing ≡ 0 ↔ ((k : ℕ) → k < l.place → get_or l.text k 0 ≡ get_or l.secret k 0);
}
