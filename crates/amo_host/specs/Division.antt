-- The charges of a host, divided among several pumps.
use Rattle.std.specs.Prelude.{◌≡◌, ℕ, ◌+◌, ◌*◌, ◌/◌, ◌%◌, ◌≤◌, nat_lt, if◌then◌else◌, List, length, map, sum_by, slice_get, Some}
use Rattle.amo_book.specs.Book.{Each}
use Rattle.amo_book.specs.Charge.{ChargeState}
use Rattle.amo_host.specs.Charges.{CanBeDriven}
use Rattle.amo_host.specs.Handshakes.{open_count}
use Rattle.amo_host.specs.Station.{Station, IsStation, Begins}
use Rattle.amo_host.specs.declared.fault.DivideFault.{DivideFault}
use Rattle.amo_host.specs.declared.fault.DivideFault.TheVariants as divide_fault

-- the greatest number of pumps of a host
abbrev pub most_pumps : ℕ
most_pumps = 4

-- the window of a pump: an even share, and one handshake more for the first pumps, as long as some are left over
abbrev pub share : ℕ → ℕ → ℕ → ℕ
share window pumps p = window / pumps + (if nat_lt p (window % pumps) then 1 else 0)

-- what stands in the places p, p + pumps, p + 2 * pumps, .. of a list
pub record IsPart {X : Type 0} (pumps p : ℕ) (all part : List X) : Type 0 where
  pub each : (k : ℕ) → slice_get part k ≡ slice_get all (p + pumps * k)

-- 1 to 4 pumps, as many words, a charge and a handshake for each, and charges that one pump could drive
pub record CanBeDivided (charges : List ChargeState) (window pumps words : ℕ) : Type 0 where
  pub some : 1 ≤ pumps
  pub few : pumps ≤ most_pumps
  pub a_word_each : words ≡ pumps
  pub a_charge_each : pumps ≤ length charges
  pub a_handshake_each : pumps ≤ window
  pub driven : CanBeDriven charges window

-- The charges can be divided so, and there are as many pumps as asked, each a new one: pump p has the charges in the places p,
-- p + pumps, .., its share of the window, and the words in place p.
pub record Divides {W : Type 0} (charges : List ChargeState) (window pumps : ℕ) (words : List W) (stations : List (Station W)) : Type 0 where
  pub lawful : CanBeDivided charges window pumps (length words)
  pub count : length stations ≡ pumps
  pub part : (p : ℕ) (s : Station W) → slice_get stations p ≡ Some s → IsPart pumps p charges s.charges
  pub word : (p : ℕ) (s : Station W) → slice_get stations p ≡ Some s → slice_get words p ≡ Some s.words
  pub begins : (p : ℕ) (s : Station W) → slice_get stations p ≡ Some s → Begins s.charges (share window pumps p) s.words s

-- how many permits the pumps have out together
abbrev pub permits_out : {W : Type 0} → List (Station W) → ℕ
permits_out stations = sum_by (λ s. open_count s.host.permits) stations

-- The windows add up to the whole one. So the pumps never have more permits out together than it allows: no turn changes the limit
-- of a pump.
pub record ShareWindow {W : Type 0} (window : ℕ) (stations : List (Station W)) : Type 0 where
  pub whole : sum_by (λ s. s.host.limit) stations ≡ window
  pub always : (later : List (Station W)) → Each IsStation later → map (λ s. s.host.limit) later ≡ map (λ s. s.host.limit) stations → permits_out later ≤ window

-- no pump was made: charges and words come back, and Limits says that they cannot be divided so
abbrev pub RefusesDivision : {W : Type 0} → List ChargeState → ℕ → ℕ → List W → DivideFault W → Type 0
RefusesDivision charges window pumps words (divide_fault.Limits cs ws) = (cs.items ≡ charges) × (ws.items ≡ words) × ¬ (CanBeDivided charges window pumps (length words))
RefusesDivision charges window pumps words (divide_fault.NoMemory cs ws) = (cs.items ≡ charges) × (ws.items ≡ words) × CanBeDivided charges window pumps (length words)
