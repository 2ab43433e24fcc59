-- The queue in doubt: the at-most-once queue with a mark on each message, and on the status, that a crash may have lost. What is
-- marked may be lost later; what bears no mark any more stays.
use Rattle.std.specs.Prelude.{◌≡◌, ℕ, Bool, true, false, Option, None, Some, List, [], ◌∷◌, ◌++◌, map}
use Rattle.amo_object.specs.declared.step.End.{End}
use Rattle.amo_object.specs.declared.status.Status.{Status}
use Rattle.amo_object.specs.declared.status.Status.TheVariants.{Yes, No, Open}
use Rattle.amo_object.specs.declared.step.Step.{Step}
use Rattle.amo_object.specs.declared.step.Step.TheVariants.{Put, Get, Ack, Crash, Recover, DownReply, Lose, LoseAck}
use Rattle.amo_object.specs.Queue as queue
use Rattle.amo_object.specs.Queue.{settled, status_of}

-- a message of the queue, and whether it is in doubt
pub record Entry : Type 0 where
  pub message : List ℕ
  pub doubted : Bool

abbrev pub entry : Bool → List ℕ → Entry
entry doubted m = record { message = m; doubted = doubted }

-- the messages, first one first; what is known of the last one put, and whether that is in doubt; which sides are down
pub record DoubtState : Type 0 where
  pub entries : List Entry
  pub status : Status
  pub status_doubted : Bool
  pub sender_down : Bool
  pub receiver_down : Bool

-- empty, with nothing put yet and both sides up
abbrev pub start : DoubtState
start = record { entries = []; status = Yes; status_doubted = false; sender_down = false; receiver_down = false }

-- the queue, if nothing that is in doubt was lost
abbrev pub queue_of : DoubtState → queue.QueueState
queue_of s = record {
  messages = map (λ (e : Entry). e.message) s.entries;
  status = s.status;
  sender_down = s.sender_down;
  receiver_down = s.receiver_down;
}

-- whether this side is down
abbrev pub is_down : DoubtState → End → Bool
is_down s side = queue.is_down (queue_of s) side

-- whether some side is down
abbrev pub is_any_down : DoubtState → Bool
is_any_down s = queue.is_any_down (queue_of s)

-- this side is down from now on, or up
abbrev pub set_down : DoubtState → End → Bool → DoubtState
set_down s side down =
    let q = queue.set_down (queue_of s) side down in
    record s { sender_down = q.sender_down; receiver_down = q.receiver_down }

-- the message that comes first
abbrev pub first : List Entry → Option (List ℕ)
first [] = None
first (e ∷ es) = Some e.message

-- and those after it
abbrev pub rest : List Entry → List Entry
rest [] = []
rest (e ∷ es) = es

-- the status once a message in front of these has left: if none is behind it, an open status becomes the one given
abbrev pub settled_before : List Entry → Status → Status → Status
settled_before [] status known = settled status known
settled_before (e ∷ later) status known = status

-- What happens to the queue. A change of one message names it by those before it and those after it.
pub data Change : Type 0 where
  -- a visible step of the queue: a client's call, a crash or a recovery
  call : Step → Change
  -- a message is marked, loses its mark, or is lost
  mark : List Entry → Entry → List Entry → Change
  unmark : List Entry → Entry → List Entry → Change
  leave : List Entry → Entry → List Entry → Change
  -- the status is marked, loses its mark, or becomes No
  mark_status : Change
  unmark_status : Change
  settle_status : Change

-- a visible step of the queue is allowed here
abbrev pub AllowsCall : DoubtState → Step → Type 0
AllowsCall s (Put m) = s.sender_down ≡ false
AllowsCall s (Get m) = (s.receiver_down ≡ false) × (first s.entries ≡ Some m)
AllowsCall s (Ack answer) = (s.sender_down ≡ false) × (s.status ≡ status_of answer) × (s.status_doubted ≡ false)
AllowsCall s (Crash side) = Unit {0}
AllowsCall s (Recover side) = Unit {0}
AllowsCall s (DownReply side) = is_down s side ≡ true
AllowsCall s (Lose place) = ⊥
AllowsCall s LoseAck = ⊥

-- and what it leaves
abbrev pub after_call : DoubtState → Step → DoubtState
after_call s (Put m) = record s { entries = s.entries ++ entry false m ∷ []; status = Open; status_doubted = false }
after_call s (Get m) = record s { entries = rest s.entries; status = settled_before (rest s.entries) s.status Yes }
after_call s (Ack answer) = s
after_call s (Crash side) = set_down s side true
after_call s (Recover side) = set_down s side false
after_call s (DownReply side) = s
after_call s (Lose place) = s
after_call s LoseAck = s

-- Marks are set only while a side is down, and may be taken away at any time. What is marked may be lost at any time: a message
-- leaves, as at a loss of the queue, and a status becomes No.
abbrev pub Allows : DoubtState → Change → Type 0
Allows s (call step) = AllowsCall s step
Allows s (mark before e later) = (is_any_down s ≡ true) × (s.entries ≡ before ++ e ∷ later)
Allows s (unmark before e later) = s.entries ≡ before ++ e ∷ later
Allows s (leave before e later) = (e.doubted ≡ true) × (s.entries ≡ before ++ e ∷ later)
Allows s mark_status = is_any_down s ≡ true
Allows s unmark_status = Unit {0}
Allows s settle_status = s.status_doubted ≡ true

-- the queue after a change that it allows
abbrev pub after : DoubtState → Change → DoubtState
after s (call step) = after_call s step
after s (mark before e later) = record s { entries = before ++ entry true e.message ∷ later }
after s (unmark before e later) = record s { entries = before ++ entry false e.message ∷ later }
after s (leave before e later) = record s { entries = before ++ later; status = settled_before later s.status No }
after s mark_status = record s { status_doubted = true }
after s unmark_status = record s { status_doubted = false }
after s settle_status = record s { status = No }

-- these changes, one after another, each allowed where it stands
abbrev pub AllowsAll : DoubtState → List Change → Type 0
AllowsAll s [] = Unit {0}
AllowsAll s (c ∷ cs) = Allows s c × AllowsAll (after s c) cs

-- the queue after them
abbrev pub after_all : DoubtState → List Change → DoubtState
after_all s [] = s
after_all s (c ∷ cs) = after_all (after s c) cs

-- the visible steps among changes
abbrev pub calls_of : List Change → List Step
calls_of [] = []
calls_of (call step ∷ cs) = step ∷ calls_of cs
calls_of (mark before e later ∷ cs) = calls_of cs
calls_of (unmark before e later ∷ cs) = calls_of cs
calls_of (leave before e later ∷ cs) = calls_of cs
calls_of (mark_status ∷ cs) = calls_of cs
calls_of (unmark_status ∷ cs) = calls_of cs
calls_of (settle_status ∷ cs) = calls_of cs

-- from one state to another by changes that are allowed, with just these visible steps among them
pub record Moves (s : DoubtState) (steps : List Step) (t : DoubtState) : Type 0 where
  pub changes : List Change
  pub allowed : AllowsAll s changes
  pub reached : after_all s changes ≡ t
  pub seen : calls_of changes ≡ steps

-- whether a change sets a mark
abbrev pub sets_mark : Change → Bool
sets_mark (mark before e later) = true
sets_mark mark_status = true
sets_mark _ = false

-- none of these changes sets a mark
abbrev pub SetsNoMark : List Change → Type 0
SetsNoMark [] = Unit {0}
SetsNoMark (c ∷ cs) = (sets_mark c ≡ false) × SetsNoMark cs

-- the same moves, and no mark is set
pub record MovesUnmarking (s : DoubtState) (steps : List Step) (t : DoubtState) : Type 0 where
  pub moves : Moves s steps t
  pub unmarking : SetsNoMark moves.changes
