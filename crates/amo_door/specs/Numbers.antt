-- What is done with a claim, by what was made last on its stream.
use Rattle.std.specs.Prelude.{ℕ, ◌+◌, ◌-◌, ◌≤◌, ◌==◌, ◌&&◌, Bool, false, true, not, if◌then◌else◌, Option, None, Some, List, length, get_or, set, bytes_eq}
use Rattle.amo_door.specs.declared.claim.Claim.{Claim}
use Rattle.amo_door.specs.declared.claim.Made.{Made}
use Rattle.amo_door.specs.declared.claim.EventPlace.{EventPlace}
use Rattle.amo_door.specs.declared.claim.Decision.{Decision}
use Rattle.amo_door.specs.declared.claim.Decision.TheVariants.{Next, Again, Conflict, OtherLife}

-- what is kept: the host's life, and what was made last on each stream, the first stream first
pub record Table : Type 0 where
  pub life : List ℕ
  pub lasts : List (Option Made)

-- a stream that there is
abbrev pub HasStream : Table → ℕ → Type 0
HasStream table stream = (1 ≤ stream) × (stream ≤ length table.lasts)

-- what was made last on a stream
abbrev pub last_of : Table → ℕ → Option Made
last_of table stream = get_or table.lasts (stream - 1) None

-- the number of what was made last; 0 where nothing was
abbrev pub number_of : Option Made → ℕ
number_of None = 0
number_of (Some made) = made.number

-- whether this caller asked for what was made
abbrev pub is_by : Option (List ℕ) → List ℕ → Bool
is_by None caller = false
is_by (Some by) caller = bytes_eq by caller

-- whether a claim that brings a message brings this one; a claim for the message that comes brings none
abbrev pub is_brought : Option (List ℕ) → List ℕ → Bool
is_brought None message = true
is_brought (Some brought) message = bytes_eq brought message

-- whether this was made under the number of a claim, for its caller
abbrev pub is_for : Made → Claim → Bool
is_for made claim = (made.number == claim.number) && is_by made.by claim.by

-- whether what was made last was made for such a claim
abbrev pub is_made_for : Claim → Option (List ℕ) → Option Made → Bool
is_made_for claim brings None = false
is_made_for claim brings (Some made) = is_for made claim && is_brought brings made.message

-- what is done with a claim in this life, where this was made last on its stream, and was made for the claim or not
abbrev pub chosen : List ℕ → Option Made → Claim → Bool → Decision
chosen life last claim again =
    if not (bytes_eq life claim.life) then OtherLife
    else (if again then Again
    else (if claim.number == (number_of last + 1) then Next else Conflict))

-- what is done with a claim in this life, where this was made last on its stream
abbrev pub decision : List ℕ → Option Made → Claim → Option (List ℕ) → Decision
decision life last claim brings = chosen life last claim (is_made_for claim brings last)

-- what is made for a claim: this message, and its event stands there
abbrev pub made_for : Claim → List ℕ → EventPlace → Made
made_for claim message place = record { number = claim.number; by = Some claim.by; message = message; place = place }

-- what is made without a claim, under the next number
abbrev pub made_for_none : Option Made → List ℕ → EventPlace → Made
made_for_none last message place = record { number = number_of last + 1; by = None; message = message; place = place }

-- the same, and this was made last on a stream
abbrev pub with_last : Table → ℕ → Made → Table
with_last table stream made = record { life = table.life; lasts = set table.lasts (stream - 1) (Some made) }
