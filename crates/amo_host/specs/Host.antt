-- A host: what it knows of its charges, and so what it is to do next.
use Rattle.std.specs.Prelude.{◌≡◌, ◌↔◌, IsTrue, ℕ, ◌+◌, ◌-◌, ◌<◌, ◌≤◌, nat_lt, Bool, if◌then◌else◌, List, [], replicate, Option, Some, None, map, slice_get, slice_set, length}
use Rattle.amo_object.specs.declared.step.End.{End}
use Rattle.amo_object.specs.declared.step.End.TheVariants as side
use Rattle.amo_packet.specs.declared.packet.OwnedPacket.{OwnedPacket}
use Rattle.amo_packet.specs.declared.packet.OwnedBody.{OwnedBody}
use Rattle.amo_packet.specs.declared.packet.OwnedBody.TheVariants as packet
use Rattle.amo_core.specs.declared.mode.Mode.{Mode}
use Rattle.amo_core.specs.declared.mode.Mode.TheVariants.{Quiet}
use Rattle.amo_window.specs.declared.pace.Pace.{Pace}
use Rattle.amo_window.specs.declared.timers.Timer.{Timer}
use Rattle.amo_window.specs.Timers.{CanBeTimed, sent, stopped, changed, due}
use Rattle.amo_window.specs.Timers as timers
use Rattle.amo_host.specs.Modes.{is_open, is_timed}
use Rattle.amo_host.specs.Handshakes.{open_count}
use Rattle.amo_host.specs.declared.agenda.StreamMode.{StreamMode}
use Rattle.amo_host.specs.declared.agenda.Task.{Task}
use Rattle.amo_host.specs.declared.agenda.Task.TheVariants as task

-- the side; of each charge its stream and the mode that it answered last; how many permits may be out, and for which stream
-- one is out in each place; the timers; the place where the rotation stands
pub record Host : Type 0 where
  pub side : End
  pub modes : List StreamMode
  pub limit : ℕ
  pub permits : List (Option ℕ)
  pub timers : List Timer
  pub rotation : ℕ

-- the streams of the charges
abbrev pub streams_of : List StreamMode → List ℕ
streams_of modes = map (λ m. m.stream) modes

-- the permit that a stream in this mode holds
abbrev pub permit_of : StreamMode → Option ℕ
permit_of m = if is_open m.mode then Some m.stream else None

-- A permit is out for exactly the streams in NeedId or Send, and no more than the window allows. Each stream has a timer, and
-- the streams rise.
pub record IsHost (h : Host) : Type 0 where
  pub permits : h.permits ≡ map permit_of h.modes
  pub window : open_count h.permits ≤ h.limit
  pub timers : timers.streams_of h.timers ≡ streams_of h.modes
  pub streams : CanBeTimed (streams_of h.modes)
  pub rotation : h.rotation < length h.modes

-- the charge in this place
abbrev pub IsAt : Host → ℕ → StreamMode → Type 0
IsAt h place m = slice_get h.modes place ≡ Some m

-- the place that comes after so many others in the rotation
abbrev pub in_rotation : Host → ℕ → ℕ
in_rotation h k = if nat_lt (h.rotation + k) (length h.modes) then h.rotation + k else h.rotation + k - length h.modes

-- the charge in this place answered Quiet last
abbrev pub IsQuiet : Host → ℕ → Type 0
IsQuiet h place = (stream : ℕ) × IsAt h place (record { stream = stream; mode = Quiet })

-- it is a sender's host, and a permit is free
pub record MayStart (h : Host) : Type 0 where
  pub sender : h.side ≡ side.Sender
  pub free : open_count h.permits < h.limit

-- a start: the first quiet charge, in the order of the rotation
pub record IsStart (h : Host) (place : ℕ) : Type 0 where
  pub may : MayStart h
  pub step : ℕ
  pub within : step < length h.modes
  pub here : place ≡ in_rotation h step
  pub quiet : IsQuiet h place
  pub first : (k : ℕ) → k < step → ¬ (IsQuiet h (in_rotation h k))

-- what a host does next without input: it resends for the first stream that is due, or starts, or does nothing
abbrev pub IsNext : Host → ℕ → Task → Type 0
IsNext h now (task.Resend place) = (place < length h.modes) × (slice_get (due now h.timers) 0 ≡ slice_get (streams_of h.modes) place)
IsNext h now (task.Start place) = (due now h.timers ≡ []) × IsStart h place
IsNext h now task.Idle = (due now h.timers ≡ []) × (MayStart h → (place : ℕ) → ¬ (IsQuiet h place))

-- the place after this one, and the first after the last
abbrev pub next_place : Host → ℕ → ℕ
next_place h place = if nat_lt (place + 1) (length h.modes) then place + 1 else 0

-- The timers after an event of this stream. Where the kind of the mode changed, the timer is stopped, and set anew in a mode
-- that has one; where a resend kept the kind, it was sent again.
abbrev pub retimed : Bool → Bool → Mode → ℕ → ℕ → List Timer → List Timer
retimed kept resent mode stream now ts =
    if kept then (if resent then changed (sent now) stream ts else ts)
    else if is_timed mode then changed (sent now) stream (changed stopped stream ts)
    else changed stopped stream ts

-- the charge m in this place answered this mode, by a resend or another event, at this time: h becomes g
pub record Noted (h g : Host) (place : ℕ) (m : StreamMode) (resent : Bool) (mode : Mode) (now : ℕ) : Type 0 where
  pub modes : g.modes ≡ slice_set h.modes place (record m { mode = mode })
  pub kept : Bool
  pub is_kept : IsTrue kept ↔ (m.mode ≡ mode)
  pub timers : g.timers ≡ retimed kept resent mode m.stream now h.timers
  pub side : g.side ≡ h.side
  pub limit : g.limit ≡ h.limit
  pub rotation : g.rotation ≡ h.rotation

-- the side that a packet belongs to
abbrev pub side_of : OwnedBody → End
side_of (packet.Accept jd id) = side.Sender
side_of (packet.Ack id got) = side.Sender
side_of _ = side.Receiver

-- the packet is for the charge in this place
pub record IsFor (h : Host) (place : ℕ) (p : OwnedPacket) : Type 0 where
  pub side : side_of p.body ≡ h.side
  pub stream : slice_get (streams_of h.modes) place ≡ Some p.stream

-- a host of charges none of which has a handshake open, whose timers are of this pace: no permit is out, no timer is set
abbrev pub paced : Pace → End → List StreamMode → ℕ → Host
paced pace side modes window = record {
  side = side;
  modes = modes;
  limit = window;
  permits = replicate (length modes) None;
  timers = map (timers.resting pace) (streams_of modes);
  rotation = 0;
}

-- the same, in ticks
abbrev pub fresh : End → List StreamMode → ℕ → Host
fresh side modes window = paced timers.in_ticks side modes window
