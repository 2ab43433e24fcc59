-- Histories of which one tells of a stream's later puts what another one does.
use Rattle.std.specs.Prelude.{◌≡◌, ◌↔◌, ◌⊎◌, ℕ, ◌+◌, ◌-◌, true, List, [], ◌∷◌, ◌++◌, length, map}
use Rattle.std.specs.List.{Contains}
use Rattle.amo_object.specs.declared.step.End.TheVariants.{Sender}
use Rattle.amo_core.specs.declared.act.Act.TheVariants as act
use Rattle.amo_core.specs.Sender.{SenderState, held_by}
use Rattle.amo_core.specs.declared.sender.SenderMode.{SenderMode}
use Rattle.amo_core.specs.declared.sender.SenderMode.TheVariants as sending
use Rattle.amo_world.specs.declared.event.Event.{Event}
use Rattle.amo_world.specs.History.{events_at, stream_after}
use Rattle.amo_outcomes.specs.Puts.{Puts, puts_after, sent_under}
use Rattle.amo_outcomes.specs.Outcome.{asking}
use Rattle.amo_outcomes.specs.Heard.{Heard, all_sent, heard_after}

-- a sender's mode, whatever it knows of the last message
abbrev pub unanswered : SenderMode → SenderMode
unanswered (sending.Quiet got) = sending.Quiet true
unanswered mode = mode

-- puts by their numbers behind so many others
abbrev pub moved : ℕ → List ℕ → List ℕ
moved many puts = map (λ (put : ℕ). many + put) puts

-- of these puts each is one of those, so many behind, and none of them is left out
abbrev pub AreThose : ℕ → List ℕ → List ℕ → Type 0
AreThose many puts' puts = (put : ℕ) → Contains puts' put ↔ Contains puts (many + put)

-- A sender without so many first puts stands for one that has them: it is of the same stream and in the same mode, the same messages wait, and of the other
-- puts the same wait, are asked for, were sent, and travel under each identifier, and the same was heard of them.
pub record StandsAt (many : ℕ) (s' s : SenderState) (p' p : Puts) (h' h : Heard) : Type 0 where
  pub stream : s'.stream ≡ s.stream
  pub mode : unanswered s'.mode ≡ unanswered s.mode
  pub messages : s'.waiting ≡ s.waiting
  pub count : p.count ≡ many + p'.count
  pub waiting : p.waiting ≡ moved many p'.waiting
  pub asked : asking s.mode p.carried ≡ moved many (asking s'.mode p'.carried)
  pub sent : AreThose many (all_sent p'.sent) (all_sent p.sent)
  pub under : (id : ℕ) → AreThose many (sent_under p'.sent id) (sent_under p.sent id)
  pub got : AreThose many h'.got h.got
  pub settled : AreThose many h'.settled h.settled

-- one history of a stream so stands for another
abbrev pub StandsFor : ℕ → ℕ → List Event → List Event → Type 0
StandsFor number many part whole =
    StandsAt many (stream_after number part).sender.state (stream_after number whole).sender.state (puts_after number part) (puts_after number whole)
    (heard_after number part) (heard_after number whole)

-- A history of puts without an answer alone brings a stream's sender to where another one does, but for what it knows of the last message: to the same mode,
-- the same messages wait, and it has as many puts as messages are in the open handshake and wait.
pub record BringsTo (number : ℕ) (part whole : List Event) : Type 0 where
  pub mode : unanswered (stream_after number part).sender.state.mode ≡ unanswered (stream_after number whole).sender.state.mode
  pub messages : (stream_after number part).sender.state.waiting ≡ (stream_after number whole).sender.state.waiting
  pub puts : (puts_after number part).count ≡ length (held_by (stream_after number part).sender.state.mode) + length (stream_after number part).sender.state.waiting

-- an event by which the sender of a stream crashes
abbrev pub IsCrashOf : ℕ → Event → Type 0
IsCrashOf number e = (e.stream ≡ number) × (e.side ≡ Sender) × (e.act ≡ act.Crash)

-- the first of these events at the sender of a stream is a crash, if there is one
abbrev pub BeginsWithCrash : ℕ → List Event → Type 0
BeginsWithCrash number events = (events_at number Sender events ≡ [])
    ⊎ ((later : List Event) × (crash : Event) × (older : List Event) × (events ≡ later ++ crash ∷ older) × IsCrashOf number crash × (events_at number Sender older ≡ []))

-- These events go on from a list of earlier ones as they do from all of them: the list brings the stream's sender to where all do and has the puts without an
-- answer alone; or it has none of the sender's, who crashes first.
abbrev pub GoesOnFrom : ℕ → List Event → List Event → List Event → Type 0
GoesOnFrom number newer listed all = BringsTo number listed all ⊎ ((events_at number Sender listed ≡ []) × BeginsWithCrash number newer)

-- how many puts of a stream one history has more than another
abbrev pub more_puts : ℕ → List Event → List Event → ℕ
more_puts number part whole = (puts_after number whole).count - (puts_after number part).count
