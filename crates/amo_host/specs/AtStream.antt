-- Calls of a pump that name a stream, or bring a packet.
use Rattle.std.specs.Prelude.{◌≡◌, ℕ, ◌≤◌, min, true, false, Option, None, Some, List, map, slice_get, Contains}
use Rattle.amo_object.specs.declared.step.End.{End}
use Rattle.amo_packet.specs.declared.packet.OwnedPacket.{OwnedPacket}
use Rattle.amo_core.specs.declared.act.Act.{Act}
use Rattle.amo_core.specs.declared.act.Act.TheVariants as act
use Rattle.amo_core.specs.declared.mode.Mode.{Mode}
use Rattle.amo_core.specs.declared.summary.Summary.{Summary}
use Rattle.amo_window.specs.declared.timers.Timer.{Timer}
use Rattle.amo_window.specs.Timers as timers
use Rattle.amo_book.specs.Book.{Each}
use Rattle.amo_book.specs.Charge.{ChargeState}
use Rattle.amo_book.specs.Foresee.{Foresees}
use Rattle.amo_book.specs.Look.{Stands}
use Rattle.amo_book.specs.Pass.{PassState}
use Rattle.amo_book.specs.declared.drive.Done.{Done}
use Rattle.amo_book.specs.declared.foresee.Foreseen.{Foreseen}
use Rattle.amo_host.specs.declared.fault.PumpFault.{PumpFault}
use Rattle.amo_host.specs.declared.fault.PumpFault.TheVariants.{Busy, NoWord}
use Rattle.amo_host.specs.declared.turned.Kind.TheVariants as kind
use Rattle.amo_host.specs.declared.turned.Turned.{Turned}
use Rattle.amo_host.specs.declared.turned.Turned.TheVariants.{Idle, Stranger, Did}
use Rattle.amo_host.specs.declared.agenda.StreamMode.{StreamMode}
use Rattle.amo_host.specs.Host.{Host, IsAt, IsFor, IsQuiet, MayStart, streams_of}
use Rattle.amo_host.specs.Modes.{waits}
use Rattle.amo_host.specs.Station.{Station}
use Rattle.amo_host.specs.Turn.{DeliveryFails, Drew, DrewFor, Happened, Lacks, Nothing, WordsChanged}

-- the charge of this stream answered this mode last
abbrev pub HasMode : Host → ℕ → Mode → Type 0
HasMode h stream mode = (place : ℕ) × IsAt h place (record { stream = stream; mode = mode })

-- no side waits for its peer
abbrev pub AreCalm : Host → Type 0
AreCalm h = Each (λ m. waits m.mode ≡ false) h.modes

-- the side in this place waits for its peer, and its packet is to be sent again at this time
pub record IsSet (h : Host) (place time : ℕ) : Type 0 where
  pub m : StreamMode
  pub at : IsAt h place m
  pub waiting : waits m.mode ≡ true
  pub timer : Timer
  pub timed : slice_get h.timers place ≡ Some timer
  pub next : timer.next ≡ Some time

-- when a stream is to be sent again next, if one is
abbrev pub IsNextDue : Host → Option ℕ → Type 0
IsNextDue h None = (place time : ℕ) → ¬ (IsSet h place time)
IsNextDue h (Some time) = ((place : ℕ) × IsSet h place time) × ((place other : ℕ) → IsSet h place other → time ≤ other)

-- the earlier of two times, if there are any
abbrev pub earlier : Option ℕ → Option ℕ → Option ℕ
earlier (Some one) (Some other) = Some (min one other)
earlier (Some one) None = Some one
earlier None (Some other) = Some other
earlier None None = None

-- this stream is to be sent again, and its time has come
pub record IsDue (h : Host) (stream now : ℕ) : Type 0 where
  pub place : ℕ
  pub at : slice_get (streams_of h.modes) place ≡ Some stream
  pub time : ℕ
  pub set : IsSet h place time
  pub come : time ≤ now

-- with these timers
abbrev pub with_timers : {W : Type 0} → Station W → List Timer → Station W
with_timers s ts = record s { host = record s.host { timers = ts } }

-- this stream was sent again at this time
abbrev pub repeated : {W : Type 0} → ℕ → ℕ → Station W → Station W
repeated stream now s = with_timers s (timers.changed (timers.sent now) stream s.host.timers)

-- each timer that is set began anew at this time
abbrev pub hastened : {W : Type 0} → ℕ → Station W → Station W
hastened now s = with_timers s (map (timers.hastened now) s.host.timers)

-- what an act would do at the charge of this stream, if there is one
abbrev pub Foretells : {W : Type 0} → Station W → ℕ → Act → PassState → PassState → List ℕ → List ℕ → Option Foreseen → Type 0
Foretells s stream a v w old new None = ¬ (Contains (streams_of s.host.modes) stream) × (w ≡ v) × (new ≡ old)
Foretells s stream a v w old new (Some foreseen) =
    (place : ℕ) × (charge : ChargeState) × (slice_get s.charges place ≡ Some charge) × (charge.stream ≡ stream) × Foresees v w charge a old new foreseen

-- how the host's side of this stream stands, if there is a charge of it
abbrev pub FindsAt : {W : Type 0} → Station W → ℕ → PassState → PassState → Option Summary → Type 0
FindsAt s stream v w None = ¬ (Contains (streams_of s.host.modes) stream) × (w ≡ v)
FindsAt s stream v w (Some summary) = Contains (streams_of s.host.modes) stream × Stands v w s.host.side stream summary

-- the packet of this stream's mode is emitted again, if there is such a charge
abbrev pub ResendsAt : {W : Type 0} → ℕ → ℕ → Station W → Station W → PassState → PassState → List ℕ → List ℕ → Turned → Type 0
ResendsAt stream now s t v w old new Stranger = ¬ (Contains (streams_of s.host.modes) stream) × Nothing s t v w old new
ResendsAt stream now s t v w old new (Did side named kind.Resend done) =
    (place : ℕ) × (slice_get (streams_of s.host.modes) place ≡ Some stream) × (named ≡ stream) × (t.words ≡ s.words)
    × Happened s t v w old new place now act.Resend true side named done
ResendsAt stream now s t v w old new _ = ⊥

-- a handshake may begin in this place: its sender is at rest, and a permit is free
pub record MayBegin (h : Host) (place : ℕ) : Type 0 where
  pub may : MayStart h
  pub quiet : IsQuiet h place

module _ {W : Type 0} (to_come : W → ℕ → Option ℕ) where
  -- a handshake is begun at this stream by this act, under the next word
  abbrev pub Begins : ℕ → ℕ → Station W → Station W → PassState → PassState → List ℕ → List ℕ → ℕ → Act → End → ℕ → Done → Type 0
  Begins stream now s t v w old new word a side named done =
      (place : ℕ) × (slice_get (streams_of s.host.modes) place ≡ Some stream) × MayBegin s.host place × (named ≡ stream) × Drew to_come s.words t.words word
      × Happened s t v w old new place now a false side named done

  -- a start at this stream: there is no such charge, none may begin, or one is begun, for one message or for a batch
  abbrev pub StartsAt : ℕ → ℕ → Station W → Station W → PassState → PassState → List ℕ → List ℕ → Turned → Type 0
  StartsAt stream now s t v w old new Stranger = ¬ (Contains (streams_of s.host.modes) stream) × Nothing s t v w old new
  StartsAt stream now s t v w old new Idle =
      (place : ℕ) × (slice_get (streams_of s.host.modes) place ≡ Some stream) × (¬ (MayBegin s.host place)) × Nothing s t v w old new
  StartsAt stream now s t v w old new (Did side named (kind.Start word) done) =
      (s.batches ≡ false) × Begins stream now s t v w old new word (act.Start word) side named done
  StartsAt stream now s t v w old new (Did side named (kind.Batch word) done) =
      (s.batches ≡ true) × Begins stream now s t v w old new word (act.Batch word) side named done
  StartsAt stream now s t v w old new _ = ⊥

  -- what a start that failed leaves: its word is gone, if there was one
  abbrev pub WordFails : Station W → Station W → PumpFault → Type 0
  WordFails s t Busy = ((word : ℕ) × Drew to_come s.words t.words word) × WordsChanged s t
  WordFails s t NoWord = Lacks to_come s t
  WordFails s t _ = ⊥

  -- it failed where one might begin
  abbrev pub StartFails : ℕ → Station W → Station W → PumpFault → Type 0
  StartFails stream s t fault =
      (place : ℕ) × (slice_get (streams_of s.host.modes) place ≡ Some stream) × MayBegin s.host place × WordFails s t fault

  -- a packet is delivered, if it is for one of the charges
  abbrev pub Delivers : OwnedPacket → ℕ → Station W → Station W → PassState → PassState → List ℕ → List ℕ → Turned → Type 0
  Delivers p now s t v w old new Stranger = ((place : ℕ) → ¬ (IsFor s.host place p)) × Nothing s t v w old new
  Delivers p now s t v w old new (Did side stream (kind.Deliver word) done) =
      (place : ℕ) × IsFor s.host place p × DrewFor to_come p.body s.words t.words word
      × Happened s t v w old new place now (act.Deliver p word) false side stream done
  Delivers p now s t v w old new _ = ⊥

  -- a delivery failed, of a packet for one of the charges
  abbrev pub FailsToDeliver : OwnedPacket → Station W → Station W → PumpFault → Type 0
  FailsToDeliver p s t fault = (place : ℕ) × IsFor s.host place p × DeliveryFails to_come p.body s t fault
