-- Where a journal goes on.
use Rattle.std.specs.Prelude.{◌≡◌, ◌≢◌, ℕ, ◌⊎◌, false, Option, Some, None, is_none}
use Rattle.amo_disk.specs.declared.ending.Ending.{Ending}
use Rattle.amo_disk.specs.declared.fault.OpenFault.{OpenFault}
use Rattle.amo_disk.specs.declared.fault.OpenFault.TheVariants.{BadPiece, OtherVersion, Apart}
use Rattle.amo_disk.specs.declared.start.Start.{Start}

-- behind the newest piece alone
abbrev pub start_alone : Ending → Start
start_alone newest = record { version = newest.version; lines = newest.next; back = newest.back; whole = newest.whole; lacks_heading = false }

-- behind a piece, and a newest one that has no line of an event
abbrev pub start_behind : Ending → Ending → Start
start_behind piece newest = record { version = piece.version; lines = piece.next; back = piece.back; whole = newest.whole; lacks_heading = is_none newest.version }

-- the newest piece goes on behind this one: it has no other version, and its first line of an event has the next number
pub record Follows (piece newest : Ending) : Type 0 where
  pub has_lines : piece.first ≢ None
  pub version : (newest.version ≡ None) ⊎ (newest.version ≡ piece.version)
  pub number : (newest.first ≡ None) ⊎ (newest.first ≡ Some piece.next)

-- they go on here: behind the newest piece, where it has a line of an event, or else with the numbers of the one before it
abbrev pub GoesOnAt : Option ℕ → Ending → Ending → Start → Type 0
GoesOnAt None piece newest start = start ≡ start_behind piece newest
GoesOnAt (Some first) piece newest start = start ≡ start_alone newest

abbrev pub GoesOn : Option Ending → Ending → Start → Type 0
GoesOn None newest start = start ≡ start_alone newest
GoesOn (Some piece) newest start = Follows piece newest × GoesOnAt newest.first piece newest start

-- why they do not
abbrev pub StartFaults : Option Ending → Ending → OpenFault → Type 0
StartFaults None newest fault = ⊥
StartFaults (Some piece) newest BadPiece = piece.first ≡ None
StartFaults (Some piece) newest OtherVersion = (newest.version ≢ None) × (newest.version ≢ piece.version)
StartFaults (Some piece) newest Apart = (newest.first ≢ None) × (newest.first ≢ Some piece.next)
StartFaults (Some piece) newest _ = ⊥
