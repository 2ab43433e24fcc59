use Rattle.std.specs.Prelude.{◌≡◌}
use Rattle.amo_net.proofs.kept_back.take_rooms.Given as goal

-- what the channel carries is as it was
abbrev pub invariant-rooms : goal.invariant-rooms
invariant-rooms g l = l.channel ≡ l.fn.channel
