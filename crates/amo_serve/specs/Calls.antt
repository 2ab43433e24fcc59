-- What comes of a call to put or to take, and what it is told.
use Rattle.std.specs.Prelude.{◌≡◌, ◌≢◌, ◌<◌, ◌+◌, ◌^◌, ◌⊎◌, ℕ, true, false, List}
use Rattle.amo_object.specs.declared.step.End.{End}
use Rattle.amo_object.specs.declared.step.End.TheVariants as side
use Rattle.amo_book.specs.Pass.{PassState}
use Rattle.amo_live.specs.Service.{CannotGet}
use Rattle.amo_door.specs.declared.answer.Answer.{Answer}
use Rattle.amo_door.specs.declared.call.Call.{Call}
use Rattle.amo_door.specs.declared.call.Call.TheVariants as call
use Rattle.amo_door.specs.declared.claim.Claim.{Claim}
use Rattle.amo_door.specs.declared.refusal.Refusal.{Refusal}
use Rattle.amo_door.specs.declared.refusal.Refusal.TheVariants.{Full, NoStream, OtherSide}
use Rattle.amo_door.specs.Numbers.{HasStream, Table, last_of, number_of}
use Rattle.amo_door.specs.Refusal.{status_of}
use Rattle.amo_serve.specs.declared.responder.Reply.{Reply}
use Rattle.amo_serve.specs.declared.responder.Reply.TheVariants as reply
use Rattle.amo_serve.specs.declared.responder.Responder.{Responder}
use Rattle.amo_serve.specs.declared.responder.taking.Taken.{Taken}
use Rattle.amo_serve.specs.declared.responder.taking.Taken.TheVariants as taken
use Rattle.amo_serve.specs.Serving.{AnswersPut, AnswersTake, AnswersUnclaimed, HasServed, IsStill, TellsPut, TellsTake}
use Rattle.amo_serve.specs.States.{IsRefused, Refuses, TellsWhy}

-- nothing was made for a caller: what is kept is the same, and no message was put or got
abbrev pub MakesNone : {L S W : Type 0} → Responder L S W → Responder L S W → Type 0
MakesNone before after = (after.numbers ≡ before.numbers) × IsStill before.service.host.pass after.service.host.pass before.service.host.journal after.service.host.journal

-- a call was refused for this reason, and nothing was made
abbrev pub WasRefused : {L S W : Type 0} → Refusal → Responder L S W → Responder L S W → Reply → Type 0
WasRefused refusal before after told = IsRefused refusal told × MakesNone before after

-- a stream has a next number
abbrev pub HasNext : Table → ℕ → Type 0
HasNext table stream = number_of (last_of table stream) + 1 < 2 ^ 64

-- A call to put this message was answered, and its turn is that of its own claim: what was put for it, now or before, or why nothing was. That there is no room is said only where
-- none can be put.
abbrev pub RepliesToPut : {L S W : Type 0} → Responder L S W → Responder L S W → Claim → List ℕ → Reply → Type 0
RepliesToPut before after claim message (reply.Answer answer) =
    AnswersPut before.numbers after.numbers before.service.host.pass after.service.host.pass before.service.host.journal after.service.host.journal claim message answer
    × (answer.status ≡ status_of Full → Refuses before claim.stream)
    × TellsWhy side.Sender before claim.stream answer
    × ((u : PassState) → HasServed side.Sender u before.service.host.pass before.service.host.journal before.numbers → TellsPut u after.service.host.pass after.service.host.journal before.numbers.life claim.stream answer)
RepliesToPut before after claim message _ = ⊥

-- the same without a number: it was put on its own stream, or there was no room for it
abbrev pub RepliesToNext : {L S W : Type 0} → Responder L S W → Responder L S W → ℕ → List ℕ → Reply → Type 0
RepliesToNext before after stream message (reply.Answer answer) =
    AnswersUnclaimed before.numbers after.numbers before.service.host.pass after.service.host.pass before.service.host.journal after.service.host.journal stream message answer
    × (answer.status ≡ status_of Full → Refuses before stream)
    × TellsWhy side.Sender before stream answer
    × ((u : PassState) → HasServed side.Sender u before.service.host.pass before.service.host.journal before.numbers → TellsPut u after.service.host.pass after.service.host.journal before.numbers.life stream answer)
RepliesToNext before after stream message _ = ⊥

-- a claim to take that is answered is told why, where nothing was got; it is not told that nothing is there
abbrev pub TellsWhyNot : {L S W : Type 0} → Responder L S W → ℕ → Taken → Type 0
TellsWhyNot responder stream (taken.Answer answer) = (answer.status ≢ 204) × TellsWhy side.Receiver responder stream answer
TellsWhyNot responder stream (taken.NotYet back) = Unit {0}

-- no message is there to be taken of a stream, and nothing was made
abbrev pub FindsNone : {L S W : Type 0} → Responder L S W → Responder L S W → ℕ → Type 0
FindsNone before after stream = CannotGet before.service stream × MakesNone before after

-- A claim to take was answered, and its turn is its own: what was taken for it, now or before, or why nothing was.
abbrev pub TakesFor : {L S W : Type 0} → Responder L S W → Responder L S W → Claim → Answer → Type 0
TakesFor before after claim answer =
    AnswersTake before.numbers after.numbers before.service.host.pass after.service.host.pass before.service.host.journal after.service.host.journal claim answer
    × TellsWhyNot before claim.stream (taken.Answer answer)
    × ((u : PassState) → HasServed side.Receiver u before.service.host.pass before.service.host.journal before.numbers → TellsTake u after.service.host.pass after.service.host.journal claim.stream (taken.Answer answer))

-- A call to take was answered so. Or no message was there: then it is told so where it does not wait or the host comes to its end, and else it waits, with its own claim and for as long as it
-- asked to.
abbrev pub RepliesToTake : {L S W : Type 0} → Responder L S W → Responder L S W → Claim → ℕ → Reply → Type 0
RepliesToTake before after claim wait (reply.Answer answer) = TakesFor before after claim answer ⊎ (FindsNone before after claim.stream × (answer.status ≡ 204) × ((wait ≡ 0) ⊎ (after.ends ≡ true)))
RepliesToTake before after claim wait (reply.Take waiting seconds) = FindsNone before after claim.stream × (waiting ≡ claim) × (seconds ≡ wait) × (0 < wait) × (after.ends ≡ false)
RepliesToTake before after claim wait _ = ⊥

-- a call is for hosts of this side: one to put for a sender's, one to take for a receiver's, and any other for both
abbrev pub IsFor : End → Call → Type 0
IsFor end (call.Put claim) = end ≡ side.Sender
IsFor end (call.PutNext stream) = end ≡ side.Sender
IsFor end (call.Take claim wait) = end ≡ side.Receiver
IsFor end _ = Unit {0}

-- a call for hosts of this side comes to that at such a host; at any other it is refused, and nothing was made
abbrev pub AnswersAt : {L S W : Type 0} → End → Responder L S W → Responder L S W → Type 0 → Reply → Type 0
AnswersAt end before after comes told = (before.side ≡ end → comes) × (before.side ≢ end → WasRefused OtherSide before after told)

-- What comes of a call to put or to take, by its own stream, claim and message. Where the host is of the other side or has no such stream, or no number is left there, it is refused and
-- nothing was made.
abbrev pub AnswersCall : {L S W : Type 0} → Responder L S W → Responder L S W → Call → List ℕ → Reply → Type 0
AnswersCall before after (call.Put claim) message told =
    AnswersAt side.Sender before after
    ((HasStream before.numbers claim.stream → RepliesToPut before after claim message told) × (¬ (HasStream before.numbers claim.stream) → WasRefused NoStream before after told)) told
AnswersCall before after (call.PutNext stream) message told =
    AnswersAt side.Sender before after
    ((HasStream before.numbers stream → HasNext before.numbers stream → RepliesToNext before after stream message told)
    × (HasStream before.numbers stream → ¬ (HasNext before.numbers stream) → WasRefused Full before after told)
    × (¬ (HasStream before.numbers stream) → WasRefused NoStream before after told)) told
AnswersCall before after (call.Take claim wait) message told =
    AnswersAt side.Receiver before after
    ((HasStream before.numbers claim.stream → RepliesToTake before after claim wait told) × (¬ (HasStream before.numbers claim.stream) → WasRefused NoStream before after told)) told
AnswersCall before after _ message told = Unit {0}
