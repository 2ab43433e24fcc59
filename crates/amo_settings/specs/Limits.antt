-- What may be asked of a run, and what a host may be told.
use Rattle.std.specs.Prelude.{ℕ, ◌≤◌, IfSome}
use Rattle.amo_settings.specs.declared.run.RunSettings.{RunSettings}
use Rattle.amo_settings.specs.declared.settings.HostSettings.{HostSettings}
use Rattle.amo_settings.specs.declared.settings.ServedSide.{ServedSide}
use Rattle.amo_settings.specs.declared.settings.ServedSide.TheVariants as side
use Rattle.amo_settings.specs.declared.settings.Settings.{Settings}
use Rattle.amo_settings.specs.declared.settings.Settings.TheVariants.{Run, Send, Receive, Serve}

-- 1 to 256 streams, 1 to 56 clients, at most 1000 crashes, and 1 to 4 pumps a host
pub record AreWithin (s : RunSettings) : Type 0 where
  pub streams : (1 ≤ s.streams) × (s.streams ≤ 256)
  pub clients : (1 ≤ s.clients) × (s.clients ≤ 56)
  pub crashes : s.crashes ≤ 1000
  pub pumps : (1 ≤ s.pumps) × (s.pumps ≤ 4)

-- 1 to 256 streams, a tick of 1 to 60000000 microseconds, which grows to an hour at most, a wait of 1000000 seconds at most, pieces of 1024 bytes to a
-- terabyte, and figures each second or less often
pub record IsHostWithin (host : HostSettings) : Type 0 where
  pub streams : (1 ≤ host.streams) × (host.streams ≤ 256)
  pub tick : (1 ≤ host.tick) × (host.tick ≤ 60000000)
  pub tick_most : IfSome host.tick_most (λ most. (host.tick ≤ most) × (most ≤ 3600000000))
  pub wait : IfSome host.wait (λ seconds. seconds ≤ 1000000)
  pub piece : IfSome host.piece (λ bytes. (1024 ≤ bytes) × (bytes ≤ 1000000000000))
  pub stats : IfSome host.stats (λ seconds. (1 ≤ seconds) × (seconds ≤ 1000000))

-- the same of a host with a door, on either side
abbrev pub IsSideWithin : ServedSide → Type 0
IsSideWithin (side.Send send) = IsHostWithin send.host
IsSideWithin (side.Receive receive) = IsHostWithin receive.host

-- what is asked of a run, and what a host is told, is within its limits
abbrev pub IsWithin : Settings → Type 0
IsWithin (Run settings file) = AreWithin settings
IsWithin (Send send) = IsHostWithin send.host
IsWithin (Receive receive) = IsHostWithin receive.host
IsWithin (Serve serve) = IsSideWithin serve.side
IsWithin _ = Unit {0}
