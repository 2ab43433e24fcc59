-- What a host does for those who ask at its door.
use Rattle.std.specs.Prelude.{◌≡◌, ℕ, Some, None, List, [], ◌∷◌, ◌++◌}
use Rattle.std.specs.List.{AllByRecursion}
use Rattle.amo_object.specs.declared.step.End.{End}
use Rattle.amo_object.specs.declared.step.End.TheVariants.{Receiver, Sender}
use Rattle.amo_core.specs.declared.act.Act.TheVariants as act
use Rattle.amo_core.specs.declared.reply.Reply.TheVariants as event_reply
use Rattle.amo_world.specs.History.{Extends}
use Rattle.amo_book.specs.Pass.{PassState, mine}
use Rattle.amo_live.specs.Callers.{GetsNone, HappensAt, IsSameLife, MovesNone, gets_in}
use Rattle.amo_live.specs.Host.{puts_in}
use Rattle.amo_live.specs.Noted.{JournalState}
use Rattle.amo_live.specs.Service.{PutsNone}
use Rattle.amo_door.specs.declared.answer.Answer.{Answer as DoorAnswer}
use Rattle.amo_door.specs.declared.answer.Extra.TheVariants.{Message}
use Rattle.amo_door.specs.declared.answer.Kind.TheVariants.{Bytes}
use Rattle.amo_door.specs.declared.answer.When.{When}
use Rattle.amo_door.specs.declared.answer.When.TheVariants.{Now, Before}
use Rattle.amo_door.specs.declared.claim.Claim.{Claim}
use Rattle.amo_door.specs.declared.claim.Made.{Made}
use Rattle.amo_door.specs.declared.refusal.Refusal.TheVariants.{Conflict, Full, OtherLife}
use Rattle.amo_door.specs.Answer.{put_body, status_of_put}
use Rattle.amo_door.specs.Numbers.{Table}
use Rattle.amo_door.specs.Refusal.{status_of}
use Rattle.amo_serve.specs.declared.responder.Reply.{Reply}
use Rattle.amo_serve.specs.declared.responder.Reply.TheVariants as reply
use Rattle.amo_serve.specs.declared.responder.taking.Taken.{Taken}
use Rattle.amo_serve.specs.declared.responder.taking.Taken.TheVariants as taken
use Rattle.amo_door.specs.Turns.{Answer, Claimed, Fresh, Gone, Keeps, NotNow, Repeated, Stands, Turn, Unclaimed}

-- a reply for which its client does not wait
abbrev pub IsAtOnce : Reply → Type 0
IsAtOnce (reply.State stream wait) = ⊥
IsAtOnce (reply.Take claim wait) = ⊥
IsAtOnce _ = Unit {0}

-- the message that a turn put, with its stream, if it put one: for a claim that brings one, or without a number
abbrev pub put_by_turn : Turn → List (ℕ × List ℕ)
put_by_turn (Claimed claim (Some brought) (Fresh made)) = (claim.stream, made.message) ∷ []
put_by_turn (Unclaimed stream made) = (stream, made.message) ∷ []
put_by_turn _ = []

-- the messages that turns put, each with its stream; newest first
abbrev pub put_by_turns : List Turn → List (ℕ × List ℕ)
put_by_turns [] = []
put_by_turns (turn ∷ past) = put_by_turn turn ++ put_by_turns past

-- the message that a turn got, with its stream, if it got one: for a claim that brings none
abbrev pub got_by_turn : Turn → List (ℕ × List ℕ)
got_by_turn (Claimed claim None (Fresh made)) = (claim.stream, made.message) ∷ []
got_by_turn _ = []

-- the messages that turns got, each with its stream; newest first
abbrev pub got_by_turns : List Turn → List (ℕ × List ℕ)
got_by_turns [] = []
got_by_turns (turn ∷ past) = got_by_turn turn ++ got_by_turns past

-- What a turn made, if it made something, happened between two moments of a host's pass: a put or a get of that message, which stands at the position that is told, and in
-- the line of the journal that is told.
abbrev pub Happened : {S : Type 0} → PassState → PassState → JournalState S → Turn → Type 0
Happened v w j (Claimed claim (Some brought) (Fresh made)) = HappensAt v w j Sender claim.stream (act.Put made.message) event_reply.Ok made.place.position made.place.line
Happened v w j (Claimed claim None (Fresh made)) = HappensAt v w j Receiver claim.stream act.Get (event_reply.Got made.message) made.place.position made.place.line
Happened v w j (Unclaimed stream made) = HappensAt v w j Sender stream (act.Put made.message) event_reply.Ok made.place.position made.place.line
Happened v w j _ = Unit {0}

-- no message was put or got, and what was seen goes on, in the same life
abbrev pub IsStill : {S : Type 0} → PassState → PassState → JournalState S → JournalState S → Type 0
IsStill v w j k = MovesNone v w × Extends w.seen v.seen × IsSameLife v w j k

-- This turn came to what is kept of a life, and what the host put and got meanwhile is what the turn put and got, where it says.
pub record IsTurn {S : Type 0} (s t : Table) (v w : PassState) (j k : JournalState S) (turn : Turn) : Type 0 where
  pub keeps : (past : List Turn) → Keeps past s → Keeps (turn ∷ past) t
  pub puts : puts_in (mine w) ≡ put_by_turn turn ++ puts_in (mine v)
  pub gets : gets_in (mine w) ≡ got_by_turn turn ++ gets_in (mine v)
  pub extends : Extends w.seen v.seen
  pub goes_on : IsSameLife v w j k
  pub happened : Happened v w k turn

-- Between two moments these turns came to what is kept of a life, each right behind those before it, and the messages that the host put, and those that it
-- got, are those that the turns put and got, in their order, and where they say.
pub record Serves {S : Type 0} (s t : Table) (v w : PassState) (j k : JournalState S) : Type 0 where
  pub turns : List Turn
  pub keeps : (past : List Turn) → Keeps past s → Keeps (turns ++ past) t
  pub puts : puts_in (mine w) ≡ put_by_turns turns ++ puts_in (mine v)
  pub gets : gets_in (mine w) ≡ got_by_turns turns ++ gets_in (mine v)
  pub extends : Extends w.seen v.seen
  pub goes_on : IsSameLife v w j k
  pub happened : AllByRecursion (Happened v w k) turns

-- what was made on a stream was put there since that moment, and its put stands where it says
abbrev pub WasPut : {S : Type 0} → PassState → PassState → JournalState S → ℕ → Made → Type 0
WasPut u w k stream made = HappensAt u w k Sender stream (act.Put made.message) event_reply.Ok made.place.position made.place.line

-- it was got there
abbrev pub WasGot : {S : Type 0} → PassState → PassState → JournalState S → ℕ → Made → Type 0
WasGot u w k stream made = HappensAt u w k Receiver stream act.Get (event_reply.Got made.message) made.place.position made.place.line

-- between two moments messages moved as at a host of this side: a sender's got none, and a receiver's put none
abbrev pub MovesAs : End → PassState → PassState → Type 0
MovesAs Sender v w = GetsNone v w
MovesAs Receiver v w = PutsNone v w

-- since that moment, at which nothing was made for callers, a host of this side served them, and what is kept came of that; a sender's got nothing meanwhile, and a receiver's put nothing
pub record HasServed {S : Type 0} (side : End) (u v : PassState) (j : JournalState S) (s : Table) : Type 0 where
  pub first : Table
  pub opened : JournalState S
  pub none : Keeps [] first
  pub serves : Serves first s u v opened j
  pub alone : MovesAs side u v

-- what the turn of a claim to put was answered is spelt so: what was made, with 201 now and 200 before; or why nothing was
abbrev pub SpellsPut : List ℕ → ℕ → Answer → DoorAnswer → Type 0
SpellsPut life stream (Fresh made) answer = (answer.status ≡ status_of_put Now) × (answer.body.items ≡ put_body life stream made)
SpellsPut life stream (Repeated made) answer = (answer.status ≡ status_of_put Before) × (answer.body.items ≡ put_body life stream made)
SpellsPut life stream (Stands number) answer = answer.status ≡ status_of Conflict
SpellsPut life stream Gone answer = answer.status ≡ status_of OtherLife
SpellsPut life stream NotNow answer = answer.status ≡ status_of Full

-- an answer is the message that was made: its bytes, and in front of them which it is and where its event stands
pub record CarriesMade (stream : ℕ) (made : Made) (answer : DoorAnswer) : Type 0 where
  pub status : answer.status ≡ 200
  pub kind : answer.kind ≡ Bytes
  pub place : answer.extra ≡ Message stream made.number made.place
  pub body : answer.body.items ≡ made.message

-- the same of a claim to take: the message
abbrev pub SpellsTaken : ℕ → Answer → DoorAnswer → Type 0
SpellsTaken stream (Fresh made) answer = CarriesMade stream made answer
SpellsTaken stream (Repeated made) answer = CarriesMade stream made answer
SpellsTaken stream (Stands number) answer = answer.status ≡ status_of Conflict
SpellsTaken stream Gone answer = answer.status ≡ status_of OtherLife
SpellsTaken stream NotNow answer = answer.status ≡ 204

-- A claim to put this message was answered so: its turn came to what is kept and to the host, and its answer spells what the turn was answered.
pub record AnswersPut {S : Type 0} (s t : Table) (v w : PassState) (j k : JournalState S) (claim : Claim) (message : List ℕ) (answer : DoorAnswer) : Type 0 where
  pub told : Answer
  pub turn : IsTurn s t v w j k (Claimed claim (Some message) told)
  pub spelt : SpellsPut s.life claim.stream told answer

-- A claim to take was answered so: the same.
pub record AnswersTake {S : Type 0} (s t : Table) (v w : PassState) (j k : JournalState S) (claim : Claim) (answer : DoorAnswer) : Type 0 where
  pub told : Answer
  pub turn : IsTurn s t v w j k (Claimed claim None told)
  pub spelt : SpellsTaken claim.stream told answer

-- A message was put without a number, and answered with 201 and where it stands; or it was not, as there was no room for it.
pub data AnswersUnclaimed {S : Type 0} (s t : Table) (v w : PassState) (j k : JournalState S) (stream : ℕ) (message : List ℕ) (answer : DoorAnswer) : Type 0 where
  IsPut : (made : Made) → IsTurn s t v w j k (Unclaimed stream made) → made.message ≡ message → answer.status ≡ status_of_put Now → answer.body.items ≡ put_body s.life stream made → AnswersUnclaimed s t v w j k stream message answer
  IsFull : t ≡ s → IsStill v w j k → answer.status ≡ status_of Full → AnswersUnclaimed s t v w j k stream message answer

-- What came of a claim to take: it was answered, or it waits, and nothing was got or kept.
abbrev pub Takes : {S : Type 0} → Table → Table → PassState → PassState → JournalState S → JournalState S → Claim → Taken → Type 0
Takes s t v w j k claim (taken.Answer answer) = AnswersTake s t v w j k claim answer
Takes s t v w j k claim (taken.NotYet back) = (back ≡ claim) × (t ≡ s) × IsStill v w j k

-- it waits
abbrev pub IsNotYet : Taken → Type 0
IsNotYet (taken.Answer answer) = ⊥
IsNotYet (taken.NotYet back) = Unit {0}

-- An answer to a claim to put that says what was put, now or before, says it of what was put for that since the host began to serve: so its put stands where it says.
abbrev pub TellsPut : {S : Type 0} → PassState → PassState → JournalState S → List ℕ → ℕ → DoorAnswer → Type 0
TellsPut u w k life stream answer =
    (when : When) → answer.status ≡ status_of_put when → (made : Made) × (answer.body.items ≡ put_body life stream made) × WasPut u w k stream made

-- So does an answer to a claim to take that says what was taken, of what was got for that.
abbrev pub TellsTake : {S : Type 0} → PassState → PassState → JournalState S → ℕ → Taken → Type 0
TellsTake u w k stream (taken.Answer answer) = answer.status ≡ 200 → (made : Made) × CarriesMade stream made answer × WasGot u w k stream made
TellsTake u w k stream (taken.NotYet back) = Unit {0}
