use Rattle.std.proofs.Common.{◌≡◌, ℕ, Some, length, slice_get, vec_capacity}
use Rattle.amo_host.specs.Host.{Host}
use Rattle.amo_host.specs.Room.{IsHostOfPart}
use Rattle.amo_host.proofs.room.agendas_of.Given as goal

-- the pumps passed have their agendas, and there is room for all
abbrev pub invariant-loop-place : goal.invariant-loop-place
invariant-loop-place l = record {
  count : length l.agendas.items ≡ l.place;
  room : vec_capacity l.agendas ≡ l.pumps;
  each : (p : ℕ) (h : Host) → slice_get l.agendas.items p ≡ Some h → IsHostOfPart l.side l.modes l.window l.pumps p h;
}
