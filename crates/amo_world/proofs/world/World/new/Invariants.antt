use Rattle.std.proofs.Common.{◌≡◌, ◌≤◌, ◌+◌, length}
use Rattle.std.specs.Prelude.{vec_capacity}
use Rattle.amo_world.proofs.Worlds.{AreNew}
use Rattle.amo_world.proofs.world.World.new.Given as goal

-- the streams so far are those at which nothing happened yet, and there is room for all
abbrev pub invariant-loop-number : goal.invariant-loop-number
invariant-loop-number l = record {
  room : 256 ≤ vec_capacity l.streams;
  count : length l.streams.items + 1 ≡ l.number;
  new : AreNew l.streams.items;
}
