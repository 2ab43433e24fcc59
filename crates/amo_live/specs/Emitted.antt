-- Packets that events emitted: those that leave a host, and those that it may send again.
use Rattle.std.specs.Prelude.{◌≡◌, ℕ, Bool, true, false, ◌⊎◌, Option, Some, None, IfSome, List, [], ◌∷◌, take, slice_get, slice_set}
use Rattle.amo_object.specs.declared.step.End.{End}
use Rattle.amo_packet.specs.declared.packet.OwnedPacket.{OwnedPacket}
use Rattle.amo_packet.specs.Grammar.{spelling}
use Rattle.amo_core.specs.declared.act.Act.{Act}
use Rattle.amo_core.specs.Automaton.{row}
use Rattle.amo_world.specs.declared.event.Event.{Event}
use Rattle.amo_world.specs.Stream.{emission_of}
use Rattle.amo_world.specs.History.{Extends, stream_after}
use Rattle.amo_book.specs.Book.{Each}
use Rattle.amo_book.specs.Pass.{PassState, IsSamePass, automaton_after}

-- what a side emitted of late: the last packet of its mode, and the last answer to a delivery that left the mode as it was
pub record RecentState : Type 0 where
  pub of_mode : Option (List ℕ)
  pub answer : Option (List ℕ)

-- nothing yet
abbrev pub nothing_recent : RecentState
nothing_recent = record { of_mode = None; answer = None }

-- with this packet more
abbrev pub keeping : Bool → List ℕ → RecentState → RecentState
keeping true packet r = record r { answer = Some packet }
keeping false packet r = record r { of_mode = Some packet }

-- the one of the two that such a packet takes the place of
abbrev pub kept_as : Bool → RecentState → Option (List ℕ)
kept_as true r = r.answer
kept_as false r = r.of_mode

-- these bytes are one of the two
abbrev pub IsRecent : RecentState → List ℕ → Type 0
IsRecent r bytes = (r.of_mode ≡ Some bytes) ⊎ (r.answer ≡ Some bytes)

-- the packets that are to leave, and for each place what its side emitted of late
pub record OutboxState : Type 0 where
  pub leaving : List (List ℕ)
  pub recent : List RecentState

-- the packet at the front of a buffer, if there is one
abbrev pub packet_in : List ℕ → Option ℕ → List (List ℕ)
packet_in buffer None = []
packet_in buffer (Some n) = take n buffer ∷ []

-- the side in a place emitted this packet, if there is one
abbrev pub Learns : ℕ → Bool → List RecentState → List RecentState → List (List ℕ) → Type 0
Learns place is_answer old new [] = new ≡ old
Learns place is_answer old new (packet ∷ _) = (r : RecentState) → slice_get old place ≡ Some r → new ≡ slice_set old place (keeping is_answer packet r)

-- An event of the pass emitted this packet: it stands in what the pass has seen, and the row of its act, after all that happened before it, emits a
-- packet that is spelt so.
pub record WasEmitted (v : PassState) (bytes : List ℕ) : Type 0 where
  pub event : Event
  pub past : List Event
  pub stands : Extends v.seen (event ∷ past)
  pub own : event.pass ≡ v.number
  pub packet : OwnedPacket
  pub emitted : emission_of (stream_after event.stream past) event.side event.act ≡ Some packet
  pub spelt : bytes ≡ spelling packet

-- and so were those that a side emitted of late
abbrev pub WereEmitted : PassState → RecentState → Type 0
WereEmitted v r = IfSome r.of_mode (WasEmitted v) × IfSome r.answer (WasEmitted v)

-- and all that leave, now or again
pub record AreEmitted (v : PassState) (o : OutboxState) : Type 0 where
  pub leaving : Each (WasEmitted v) o.leaving
  pub recent : Each (WereEmitted v) o.recent

-- the pass made no event, and has seen what others did meanwhile
pub record OnlySees (v w : PassState) : Type 0 where
  pub same : IsSamePass v w
  pub extends : Extends w.seen v.seen

-- the packets by which these are spelt
abbrev pub spelt_by : Option OwnedPacket → List (List ℕ)
spelt_by None = []
spelt_by (Some p) = spelling p ∷ []

-- An act that is no event: its row, at this side of this stream, keeps the state, and what it emits was emitted before and leaves again.
pub record IsRepetition (v : PassState) (side : End) (stream : ℕ) (a : Act) (again : List (List ℕ)) : Type 0 where
  pub keeps : (row (automaton_after side stream v.seen) a).state ≡ automaton_after side stream v.seen
  pub emits : again ≡ spelt_by (row (automaton_after side stream v.seen) a).emitted
  pub emitted : Each (WasEmitted v) again
