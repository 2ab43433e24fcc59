-- What several pumps are made of.
use Rattle.std.specs.Prelude.{false, ◌≡◌, ℕ, ◌≤◌, ◌*◌, List, [], map, length, slice_get, Some, vec_capacity}
use Rattle.std.specs.Global.{Vec}
use Rattle.std.specs.List.{zip}
use Rattle.amo_object.specs.declared.step.End.{End}
use Rattle.amo_book.specs.Charge.{ChargeState}
use Rattle.amo_host.specs.declared.agenda.StreamMode.{StreamMode}
use Rattle.amo_host.specs.Division.{IsPart, share}
use Rattle.amo_host.specs.Host.{Host, IsHost, fresh}
use Rattle.amo_host.specs.Station.{Station, IsStation}

-- the new host of the pump in place p, one of several
pub record IsHostOfPart (side : End) (modes : List StreamMode) (window pumps p : ℕ) (h : Host) : Type 0 where
  pub part : IsPart pumps p modes h.modes
  pub fresh : h ≡ fresh side h.modes (share window pumps p)
  pub host : IsHost h

-- the new hosts of all pumps
pub record HasHosts (side : End) (modes : List StreamMode) (window pumps : ℕ) (hosts : List Host) : Type 0 where
  pub count : length hosts ≡ pumps
  pub each : (p : ℕ) (h : Host) → slice_get hosts p ≡ Some h → IsHostOfPart side modes window pumps p h

-- for each pump no charges, and room for its part of so many
pub record HasRoom (pumps charges : ℕ) (parts : List (Vec ChargeState)) : Type 0 where
  pub count : length parts ≡ pumps
  pub each : (p : ℕ) (part : Vec ChargeState) → slice_get parts p ≡ Some part → (part.items ≡ []) × (charges ≤ pumps * vec_capacity part)

-- each pump has its part of these charges
pub record AreDealt (charges : List ChargeState) (pumps : ℕ) (parts : List (Vec ChargeState)) : Type 0 where
  pub count : length parts ≡ pumps
  pub each : (p : ℕ) (part : Vec ChargeState) → slice_get parts p ≡ Some part → IsPart pumps p charges part.items

-- a pump of this host, these charges and these words
abbrev pub station_of : {W : Type 0} → (Host × Vec ChargeState) × W → Station W
station_of t = record { host = t.0.0; charges = t.0.1.items; words = t.1; batches = false }

-- the pumps of these hosts, charges and words
abbrev pub joined : {W : Type 0} → List Host → List (Vec ChargeState) → List W → List (Station W)
joined hosts parts words = map station_of (zip (zip hosts parts) words)

-- each host is one of the charges in its place
pub record Suit (hosts : List Host) (parts : List (Vec ChargeState)) : Type 0 where
  pub each : (p : ℕ) (h : Host) (part : Vec ChargeState) → slice_get hosts p ≡ Some h → slice_get parts p ≡ Some part → IsStation (record { host = h; charges = part.items; words = tt {0}; batches = false })
