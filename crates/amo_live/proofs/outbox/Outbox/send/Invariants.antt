use Rattle.std.specs.Prelude.{◌≤◌, ◌+◌}
use Rattle.amo_live.proofs.outbox.Outbox.send.Given as goal

-- each failure of the device so far was counted, and no packet twice
abbrev pub invariant-parcels : goal.invariant-parcels
invariant-parcels g l = (g.L.Link.failures l.link ≤ g.L.Link.failures l.fn.link + l.failed) × (l.failed ≤ l.place)
