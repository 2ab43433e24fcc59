-- A pump, as contracts see it.
use Rattle.std.specs.Prelude.{◌≡◌, ℕ, Bool, false, List, map}
use Rattle.amo_book.specs.Book.{BookState, Each}
use Rattle.amo_book.specs.Charge.{ChargeState, IsChargeOf}
use Rattle.amo_book.specs.Pass.{PassState}
use Rattle.amo_host.specs.Host.{Host, IsHost, paced, next_place}
use Rattle.amo_window.specs.Timers.{in_ticks}
use Rattle.amo_window.specs.declared.pace.Pace.{Pace}
use Rattle.amo_host.specs.Charges.{CanBeDriven, IsOfSide, stream_mode_of}
use Rattle.amo_host.specs.declared.fault.NewPumpFault.{NewPumpFault}
use Rattle.amo_host.specs.declared.fault.NewPumpFault.TheVariants.{Limits, NoMemory}

-- the host that the pump drives, its charges, the words that are still to come, and whether the messages that wait travel together
pub record Station (W : Type 0) : Type 0 where
  pub host : Host
  pub charges : List ChargeState
  pub words : W
  pub batches : Bool

-- The host is one of these charges, all of its side. So the permits that are out are exactly those of the streams whose charge
-- answered NeedId or Send last, and no more than the window allows.
pub record IsStation {W : Type 0} (s : Station W) : Type 0 where
  pub host : IsHost s.host
  pub modes : map stream_mode_of s.charges ≡ s.host.modes
  pub sides : Each (IsOfSide s.host.side) s.charges

-- the pass and all charges are this book's
abbrev pub BelongTogether : {W : Type 0} → BookState → PassState → Station W → Type 0
BelongTogether book pass s = (pass.book ≡ book.id) × Each (IsChargeOf book.id book.sides) s.charges

-- a new pump of this pace: it has these charges and words, no permit is out, no timer is set, and each message travels by itself
pub record BeginsPaced {W : Type 0} (pace : Pace) (charges : List ChargeState) (window : ℕ) (words : W) (s : Station W) : Type 0 where
  pub charges_are : s.charges ≡ charges
  pub words_are : s.words ≡ words
  pub plain : s.batches ≡ false
  pub host : s.host ≡ paced pace s.host.side (map stream_mode_of charges) window
  pub station : IsStation s
  pub lawful : CanBeDriven charges window

-- the same, in ticks
abbrev pub Begins : {W : Type 0} → List ChargeState → ℕ → W → Station W → Type 0
Begins charges window words s = BeginsPaced in_ticks charges window words s

-- no pump was made: charges and words come back, and Limits says that these charges or this window are not allowed
abbrev pub Refuses : {W : Type 0} → List ChargeState → ℕ → W → NewPumpFault W → Type 0
Refuses charges window words (Limits cs ws) = (cs.items ≡ charges) × (ws ≡ words) × ¬ (CanBeDriven charges window)
Refuses charges window words (NoMemory cs ws) = (cs.items ≡ charges) × (ws ≡ words) × CanBeDriven charges window

-- the rotation moved past this place
abbrev pub moved_past : {W : Type 0} → Station W → ℕ → Station W
moved_past s place = record s { host = record s.host { rotation = next_place s.host place } }
