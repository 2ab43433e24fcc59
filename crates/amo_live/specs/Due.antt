-- What is due is sent again.
use Rattle.std.specs.Prelude.{◌≡◌, ◌≢◌, ℕ, ◌-◌, ◌^◌, ◌<◌, ◌⊎◌, Bool, true, false, Some, List, ◌++◌, slice_get}
use Rattle.amo_core.specs.declared.act.Act.TheVariants as act
use Rattle.amo_core.specs.declared.mode.Mode.{Mode}
use Rattle.amo_world.specs.declared.event.Event.{Event}
use Rattle.amo_world.specs.Stream.{emission_of}
use Rattle.amo_world.specs.History.{Extends, stream_after}
use Rattle.amo_book.specs.Book.{Each}
use Rattle.amo_book.specs.Pass.{mine}
use Rattle.amo_window.specs.declared.timers.Timer.{Timer}
use Rattle.amo_window.specs.Timers.{changed, sent, stopped}
use Rattle.amo_host.specs.declared.agenda.StreamMode.{StreamMode}
use Rattle.amo_host.specs.AtStream.{IsDue, repeated}
use Rattle.amo_host.specs.Host.{Host, IsAt, Noted, streams_of}
use Rattle.amo_host.specs.Station.{Station}
use Rattle.amo_live.specs.Emitted.{spelt_by}
use Rattle.amo_live.specs.Host.{HostState}

-- a timer counts anew from this time: with its next interval; or, where its stream's mode became another, with the first one, or not at all
abbrev pub CountsAnew : ℕ → Timer → Timer → Type 0
CountsAnew now t u = (u ≡ sent now t) ⊎ ((u ≡ sent now (stopped t)) ⊎ (u ≡ stopped t))

-- mode and time of the stream in this place are as they were
abbrev pub IsSameAt : Host → Host → ℕ → Type 0
IsSameAt h g place = (slice_get g.modes place ≡ slice_get h.modes place) × (slice_get g.timers place ≡ slice_get h.timers place)

-- The packet of a stream's mode, if it has one, is among those that are to leave: what the row of a resend emits, after what had happened at some moment
-- meanwhile.
pub record LeavesAgain {L S : Type 0} (h g : HostState L S) (stream : ℕ) : Type 0 where
  pub past : List Event
  pub since : Extends past h.pass.seen
  pub until : Extends g.pass.seen past
  pub before : List (List ℕ)
  pub behind : List (List ℕ)
  pub leaving : g.outbox.leaving ≡ h.outbox.leaving ++ (before ++ (spelt_by (emission_of (stream_after stream past) h.side act.Resend) ++ behind))

-- What became of what was due at this time: the packet of each stream that was due is to leave again, and its time counts anew; mode and time of any other
-- are as they were. The host made no events but resends of streams that were due.
pub record SendsDue {L S : Type 0} (now : ℕ) (h g : HostState L S) : Type 0 where
  pub again : (place : ℕ) (t : Timer) → slice_get h.pump.host.timers place ≡ Some t → IsDue h.pump.host t.stream now
      → LeavesAgain h g t.stream × ((u : Timer) × (slice_get g.pump.host.timers place ≡ Some u) × CountsAnew now t u)
  pub other : (place : ℕ) (t : Timer) → slice_get h.pump.host.timers place ≡ Some t → ¬ (IsDue h.pump.host t.stream now) → IsSameAt h.pump.host g.pump.host place
  pub events : List Event
  pub made : mine g.pass ≡ events ++ mine h.pass
  pub resends : Each (λ e. (e.act ≡ act.Resend) × IsDue h.pump.host e.stream now) events

-- a stream is due at this time
abbrev pub HasDue : Host → ℕ → Type 0
HasDue h now = (stream : ℕ) × IsDue h stream now

-- the intervals of a timer are not empty
abbrev pub HasIntervals : Timer → Type 0
HasIntervals t = (0 < t.interval) × (0 < t.pace.first)

-- no stream is due any more at this time, unless intervals were empty or the clock can count no further
abbrev pub NoneDue : {L S : Type 0} → ℕ → HostState L S → HostState L S → Type 0
NoneDue now h g = now < 2 ^ 64 - 1 → Each HasIntervals h.pump.host.timers → (stream : ℕ) → ¬ (IsDue g.pump.host stream now)

-- a pump's stream was sent again at this time, if it was
abbrev pub repeated_if : {W : Type 0} → Bool → ℕ → ℕ → Station W → Station W
repeated_if true stream now s = repeated stream now s
repeated_if false stream now s = s

-- by a resend at this time the charge of this stream answered this mode
pub record Resent {W : Type 0} (now : ℕ) (s t : Station W) (stream : ℕ) (mode : Mode) : Type 0 where
  pub place : ℕ
  pub m : StreamMode
  pub at : IsAt s.host place m
  pub of : m.stream ≡ stream
  pub noted : Noted s.host t.host place m true mode now

-- One stream was sent again at this time: its packet leaves again, without an event or by a resend, and its time counts anew.
pub record SendsAgain {L S : Type 0} (now : ℕ) (h g : HostState L S) (stream : ℕ) : Type 0 where
  pub leaves : LeavesAgain h g stream
  pub side : g.side ≡ h.side
  pub change : Timer → Timer
  pub anew : (t : Timer) → CountsAnew now t (change t)
  pub timers : g.pump.host.timers ≡ changed change stream h.pump.host.timers
  pub streams : streams_of g.pump.host.modes ≡ streams_of h.pump.host.modes
  pub modes : (place other : ℕ) → slice_get (streams_of h.pump.host.modes) place ≡ Some other → other ≢ stream → slice_get g.pump.host.modes place ≡ slice_get h.pump.host.modes place
  pub events : List Event
  pub made : mine g.pass ≡ events ++ mine h.pass
  pub resends : Each (λ e. (e.act ≡ act.Resend) × (e.stream ≡ stream)) events
