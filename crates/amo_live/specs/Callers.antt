-- What callers are told, who ask a service one by one.
use Rattle.std.specs.Prelude.{◌≡◌, ℕ, ◌+◌, ◌%◌, ◌^◌, Option, Some, None, List, [], ◌∷◌, ◌++◌, length}
use Rattle.amo_object.specs.declared.step.End.{End}
use Rattle.amo_object.specs.declared.step.End.TheVariants.{Receiver, Sender}
use Rattle.amo_core.specs.declared.act.Act.{Act}
use Rattle.amo_core.specs.declared.act.Act.TheVariants as act
use Rattle.amo_core.specs.declared.reply.Reply.{Reply}
use Rattle.amo_core.specs.declared.reply.Reply.TheVariants as reply
use Rattle.amo_world.specs.declared.event.Event.{Event}
use Rattle.amo_world.specs.History.{Extends, events_of}
use Rattle.amo_book.specs.Pass.{PassState, event, mine}
use Rattle.amo_live.specs.Host.{puts_in}
use Rattle.amo_live.specs.Noted.{HasLine, IsSameJournal, JournalState}
use Rattle.amo_live.specs.Service.{PutsNone}
use Rattle.amo_live.specs.declared.service.door.EventAt.{EventAt}

-- the message that an event got, with its stream, if it did
abbrev pub got_by : ℕ → Act → Reply → List (ℕ × List ℕ)
got_by stream act.Get (reply.Got m) = (stream, m) ∷ []
got_by _ _ _ = []

-- the messages that were got, each with its stream; newest first
abbrev pub gets_in : List Event → List (ℕ × List ℕ)
gets_in [] = []
gets_in (e ∷ past) = got_by e.stream e.act e.reply ++ gets_in past

-- no message was got
abbrev pub GetsNone : PassState → PassState → Type 0
GetsNone v w = gets_in (mine w) ≡ gets_in (mine v)

-- no message was put or got
abbrev pub MovesNone : PassState → PassState → Type 0
MovesNone v w = PutsNone v w × GetsNone v w

-- no message was put, and where there is no room to show one, none was got
abbrev pub MovesWithin : ℕ → PassState → PassState → Type 0
MovesWithin room v w = PutsNone v w × (room ≡ 0 → GetsNone v w)

-- between two moments it stays the same pass, and its journal the one that was opened so
pub record IsSameLife {S : Type 0} (v w : PassState) (j k : JournalState S) : Type 0 where
  pub number : w.number ≡ v.number
  pub journal : IsSameJournal j k

-- Between two moments of a pass an event of its own happened, of this side of this stream, that stands at this position in what the host has seen: counted from 0, and
-- modulo 2^64. And in its journal it stands in this line.
pub record HappensAt {S : Type 0} (v w : PassState) (j : JournalState S) (side : End) (stream : ℕ) (a : Act) (answer : Reply) (position line : ℕ) : Type 0 where
  pub pass : ℕ
  pub own : w.number ≡ pass
  pub past : List Event
  pub since : Extends past v.seen
  pub stands : Extends w.seen (event pass side stream a answer ∷ past)
  pub place : (position + 1) % 2 ^ 64 ≡ length (event pass side stream a answer ∷ past) % 2 ^ 64
  pub in_journal : HasLine j (events_of pass w.seen) (events_of pass past) (event pass side stream a answer) line

-- a message was got of a stream, once, and its get stands there; or none was
abbrev pub Gets : {S : Type 0} → PassState → PassState → JournalState S → ℕ → Option (List ℕ × EventAt) → Type 0
Gets v w j stream None = GetsNone v w × Extends w.seen v.seen
Gets v w j stream (Some (m, at)) = (gets_in (mine w) ≡ (stream, m) ∷ gets_in (mine v)) × HappensAt v w j Receiver stream act.Get (reply.Got m) at.position at.line

-- a message was put on a stream, once, and its put stands there; or none was
abbrev pub PutsAt : {S : Type 0} → PassState → PassState → JournalState S → ℕ → List ℕ → Option EventAt → Type 0
PutsAt v w j stream message None = PutsNone v w × Extends w.seen v.seen
PutsAt v w j stream message (Some at) = (puts_in (mine w) ≡ (stream, message) ∷ puts_in (mine v)) × HappensAt v w j Sender stream (act.Put message) reply.Ok at.position at.line
