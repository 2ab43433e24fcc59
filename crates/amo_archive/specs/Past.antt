-- What became of the messages of a sender's earlier lives.
use Rattle.std.specs.Prelude.{◌≡◌, ℕ, ◌+◌, Bool, true, false, Option, Some, None, List, [], ◌++◌, length, map, slice_get}
use Rattle.amo_door.specs.declared.answer.Fate.{Fate}
use Rattle.amo_door.specs.declared.answer.Fate.TheVariants as fate
use Rattle.amo_journal.specs.declared.numbered.Numbered.{Numbered}
use Rattle.amo_journal.specs.declared.version.Version.{Version}
use Rattle.amo_outcomes.specs.declared.sender_outcome.SenderOutcome.{SenderOutcome}
use Rattle.amo_outcomes.specs.SenderFollowers.{HaveFollowedSenders}
use Rattle.amo_outcomes.specs.SenderOutcome.{HasSenderOutcome}
use Rattle.amo_world.specs.declared.event.Event.{Event}
use Rattle.amo_world.specs.History.{IsRight}
use Rattle.amo_archive.specs.declared.lane.Lane.{Lane}
use Rattle.amo_archive.specs.declared.past.Past.{Past}
use Rattle.amo_archive.specs.Fates.{fate_of, fate_of_none}
use Rattle.amo_archive.specs.Lane.{message_of, owners_in}
use Rattle.amo_archive.specs.Records.{AreFromFirst, BeginsWith, newest_number}
use Rattle.amo_archive.specs.Reign.{owners_of, reign_after}

-- the events of lines
abbrev pub events_of : List Numbered → List Event
events_of lines = map (λ line. line.event) lines

-- These lines were taken, the newest of which is first, and the journal's first is one of them: where their events are right, they were followed; and it is known
-- whose each put is.
pub record HasTaken (past : Past) (lines : List Numbered) : Type 0 where
  pub from_first : AreFromFirst lines
  pub followed : IsRight (events_of lines) → HaveFollowedSenders past.followers (events_of lines)
  pub last : past.last ≡ newest_number lines
  pub reign : past.reign ≡ reign_after past.lives.items lines
  pub lanes : (place : ℕ) (lane : Lane) → slice_get past.lanes.items place ≡ Some lane → owners_in lane ≡ owners_of past.lives.items past.doubts.items (place + 1) lines

-- they were read, each to its end
abbrev pub HasRead : Past → List Numbered → Type 0
HasRead past lines = (past.is_broken ≡ false) × HasTaken past lines

-- a text goes on from lines with more of them, and all of them have this
pub record GoesOn (version : Version) (past : List Numbered) (rest text : List ℕ) (Have : List Numbered → Type 0) : Type 0 where
  pub more : List Numbered
  pub begins : BeginsWith version more rest text
  pub have : Have (more ++ past)

-- this is told of a put of a stream by its sender's own events, or it is unknown
pub data TellsPut (stream : ℕ) (lines : List Numbered) (put : ℕ) (doubtful : Bool) (what : Fate) : Type 0 where
  IsUnknown : what ≡ fate.Unknown → TellsPut stream lines put doubtful what
  IsTold : (outcome : SenderOutcome) → (IsRight (events_of lines) → HasSenderOutcome stream (events_of lines) put outcome) → what ≡ fate_of outcome doubtful → TellsPut stream lines put doubtful what

-- what is told of a message: this, where no line tells of it; or what is told of the put that it is
abbrev pub TellsMessage : Fate → ℕ → List Numbered → Option (ℕ × Bool) → Fate → Type 0
TellsMessage untold stream lines None what = what ≡ untold
TellsMessage untold stream lines (Some (put, doubtful)) what = TellsPut stream lines put doubtful what

-- what is told of the message of a number that a life put on a stream, by these lines
abbrev pub TellsFate : Past → ℕ → ℕ → ℕ → List Numbered → Fate → Type 0
TellsFate past life stream number lines what =
    TellsMessage (fate_of_none past.doubts.items past.lives.items life) stream lines (message_of life number (owners_of past.lives.items past.doubts.items stream lines)) what
