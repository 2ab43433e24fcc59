-- Lists of charges.
use Rattle.std.specs.Prelude.{◌≡◌, ℕ, ◌<◌, ◌≤◌, List, map, length}
use Rattle.std.specs.List.Sorted.{IsStrictlyIncreasing}
use Rattle.amo_object.specs.declared.step.End.{End}
use Rattle.amo_window.specs.Window.{most_permits}
use Rattle.amo_book.specs.Book.{Each, first_mode}
use Rattle.amo_book.specs.Charge.{ChargeState}
use Rattle.amo_host.specs.declared.agenda.StreamMode.{StreamMode}

-- a charge as a host knows it
abbrev pub stream_mode_of : ChargeState → StreamMode
stream_mode_of c = record { stream = c.stream; mode = c.mode }

-- the charge is as its book gave it out
abbrev pub IsAtRest : ChargeState → Type 0
IsAtRest c = c.mode ≡ first_mode c.side

-- the charge is of this side
abbrev pub IsOfSide : End → ChargeState → Type 0
IsOfSide side c = c.side ≡ side

-- there is a charge, all are of one side and rise by their streams, and the window is 1 to 64
pub record CanBeDriven (charges : List ChargeState) (window : ℕ) : Type 0 where
  pub some : 0 < length charges
  pub side : End
  pub one_side : Each (IsOfSide side) charges
  pub rising : IsStrictlyIncreasing (map (λ c. c.stream) charges)
  pub least : 1 ≤ window
  pub greatest : window ≤ most_permits
