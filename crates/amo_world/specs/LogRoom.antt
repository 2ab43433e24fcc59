-- Room in a log.
use Rattle.std.specs.Prelude.{◌≡◌, ◌+◌, ◌<◌, ◌≤◌, ◌^◌, vec_len, vec_capacity}
use Rattle.amo_world.specs.declared.log.Log.{Log}

-- the same events, and the same emissions
pub record IsSameLog (old new : Log) : Type 0 where
  pub history : new.history ≡ old.history
  pub events : new.events ≡ old.events
  pub stored : new.stored.items ≡ old.stored.items
  pub order : new.order.items ≡ old.order.items

-- one event more can be added, whatever it emits
pub record HasRoom (log : Log) : Type 0 where
  pub events : log.events + 1 < 2 ^ 63
  pub stored : vec_len log.stored + 1 ≤ vec_capacity log.stored
  pub order : vec_len log.order + 1 ≤ vec_capacity log.order
