-- How streams are, as a door tells it.
use Rattle.std.specs.Prelude.{◌≡◌, ◌≢◌, ◌<◌, ◌+◌, ◌⊎◌, ℕ, zero, suc, nat_lt, Bool, true, false, Option, Some, None, is_some, List, [], ◌++◌, codes}
use Rattle.amo_object.specs.declared.step.End.{End}
use Rattle.amo_object.specs.declared.step.End.TheVariants as side
use Rattle.amo_core.specs.declared.summary.Summary.{Summary}
use Rattle.amo_core.specs.Summary.{summary_of}
use Rattle.amo_book.specs.Pass.{automaton_after}
use Rattle.amo_live.specs.Service as live
use Rattle.amo_door.specs.declared.answer.Answer.{Answer}
use Rattle.amo_door.specs.declared.answer.Fate.{Fate}
use Rattle.amo_door.specs.declared.answer.Last.{Last}
use Rattle.amo_door.specs.declared.answer.Last.TheVariants as last
use Rattle.amo_door.specs.declared.answer.ReceiverState.{ReceiverState}
use Rattle.amo_door.specs.declared.answer.SenderState.{SenderState}
use Rattle.amo_door.specs.declared.refusal.Refusal.{Refusal}
use Rattle.amo_door.specs.declared.call.Call.{Call}
use Rattle.amo_door.specs.declared.call.Call.TheVariants as call
use Rattle.amo_door.specs.declared.refusal.Refusal.TheVariants.{Conflict, Ending, Full, NoStream, OtherLife, UnknownLine}
use Rattle.amo_door.specs.Answer.{IsRefusal, life_member, outcome_body, receiver_members, sender_members}
use Rattle.amo_door.specs.Numbers.{HasStream, Table, last_of, number_of}
use Rattle.amo_door.specs.Refusal.{status_of}
use Rattle.amo_serve.specs.Fates.{present_fate}
use Rattle.amo_archive.specs.Handshakes.{KnowsGot}
use Rattle.amo_archive.specs.declared.handshakes.Handshakes.{Handshakes}
use Rattle.amo_serve.specs.declared.responder.Reply.{Reply}
use Rattle.amo_serve.specs.declared.responder.Reply.TheVariants as reply
use Rattle.amo_serve.specs.declared.responder.Responder.{Responder}

-- a host with a door: its side
abbrev pub side_of : {L S W : Type 0} → Responder L S W → End
side_of responder = responder.service.host.side

-- how its side of a stream stands by the tables, after all that happened there
abbrev pub summary_at : {L S W : Type 0} → Responder L S W → ℕ → Summary
summary_at responder stream = summary_of (automaton_after (side_of responder) stream responder.service.host.pass.seen)

-- it looked how a stream stands, and nothing happened
abbrev pub HasLooked : {L S W : Type 0} → Responder L S W → Responder L S W → Type 0
HasLooked before after = (after ≡ record before { service = after.service }) × live.HasLooked before.service after.service

-- a host takes no message to put on a stream: it comes to its end, or none can be put there
abbrev pub Refuses : {L S W : Type 0} → Responder L S W → ℕ → Type 0
Refuses responder stream = (responder.ends ≡ true) ⊎ live.CannotPut responder.service stream

-- what is known of the last message of a sender's stream, if that is settled
abbrev pub last_word : Option Bool → Last
last_word None = last.Open
last_word (Some true) = last.Yes
last_word (Some false) = last.No

-- the same in a life that put so many: nothing where it put none
abbrev pub last_told : Option Bool → ℕ → Last
last_told known zero = last.None
last_told known (suc put) = last_word known

-- how a sender's stream is that stands so, on which so many were put
abbrev pub sender_told : Summary → ℕ → SenderState
sender_told summary put = record { put = put; waiting = summary.waiting; last = last_told summary.known put }

-- how a receiver's stream is that stands so, of which so many were taken: a message is ready where one has come that was not got
abbrev pub receiver_told : Summary → ℕ → ReceiverState
receiver_told summary taken = record { taken = taken; ready = nat_lt 0 summary.held }

-- what is told of a stream of a side
abbrev pub state_members : End → Summary → Table → ℕ → List ℕ
state_members side.Sender summary table stream = sender_members table.life stream (sender_told summary (number_of (last_of table stream)))
state_members side.Receiver summary table stream = receiver_members table.life stream (receiver_told summary (number_of (last_of table stream)))

-- an answer tells how a stream is
abbrev pub TellsState : End → Summary → Table → ℕ → Answer → Type 0
TellsState side summary table stream answer = (answer.status ≡ 200) × (answer.body.items ≡ codes "{" ++ state_members side summary table stream ++ codes "}")

-- whether what is waited for at a stream is so: its last message is settled; its next message is there
abbrev pub is_reached : End → Summary → Bool
is_reached side.Sender summary = is_some summary.known
is_reached side.Receiver summary = nat_lt 0 summary.held

-- A question how a stream is was answered so, or its client waits: then it asked to, and what is waited for is not so.
abbrev pub TellsOrWaits : End → Summary → Table → ℕ → ℕ → Reply → Type 0
TellsOrWaits side summary table stream wait (reply.Answer answer) = TellsState side summary table stream answer
TellsOrWaits side summary table stream wait (reply.State waited seconds) = (waited ≡ stream) × (seconds ≡ wait) × (0 < wait) × (is_reached side summary ≡ false)
TellsOrWaits side summary table stream wait _ = ⊥

-- a line, if one is given, that a journal has whose next line has this number
abbrev pub IsJournalLine : ℕ → Option ℕ → Type 0
IsJournalLine next None = Unit {0}
IsJournalLine next (Some line) = line < next

-- a request was refused for this reason, which its body says
abbrev pub IsRefused : Refusal → Reply → Type 0
IsRefused refusal (reply.Answer answer) = (answer.status ≡ status_of refusal) × IsRefusal refusal [] answer.body.items
IsRefused refusal _ = ⊥

-- an answer tells what became of the message of a number; where it was not put yet, that there is none
abbrev pub SpellsFate : List ℕ → ℕ → ℕ → Option Fate → Answer → Type 0
SpellsFate life stream number (Some fate) answer = (answer.status ≡ 200) × (answer.body.items ≡ outcome_body life stream number fate)
SpellsFate life stream number None answer = answer.status ≡ status_of Conflict

-- A question what became of the message of a number of the host's own life was answered: by how the stream stands, how many were put on it, and the ends of its handshakes.
abbrev pub TellsPresent : Summary → Table → Handshakes → ℕ → ℕ → Reply → Type 0
TellsPresent summary table handshakes stream number (reply.Answer answer) =
    (got : Bool) × KnowsGot handshakes stream number got
    × SpellsFate table.life stream number (present_fate (summary.waiting + summary.held) (number_of (last_of table stream)) number got) answer
TellsPresent summary table handshakes stream number _ = ⊥

-- why a host takes no message: it comes to its end, or its stream has no room
abbrev pub not_now : Bool → Refusal
not_now true = Ending
not_now false = Full

-- An answer to a claim by which nothing was put or got says why: that another number is the next one, and how its stream is on this side; that the host lives another life,
-- and which; or that it takes no message now.
abbrev pub TellsWhy : {L S W : Type 0} → End → Responder L S W → ℕ → Answer → Type 0
TellsWhy side responder stream answer =
    (answer.status ≡ status_of Conflict → IsRefusal Conflict (codes "," ++ state_members side (summary_at responder stream) responder.numbers stream) answer.body.items)
    × (answer.status ≡ status_of OtherLife → IsRefusal OtherLife (codes "," ++ life_member responder.numbers.life) answer.body.items)
    × (answer.status ≡ status_of Full → IsRefusal (not_now responder.ends) [] answer.body.items)

-- What is told who asks how a stream is, which messages were got there, or what became of one. What else a call comes to is not told of the host as it is.
abbrev pub TellsCall : {L S W : Type 0} → Responder L S W → Call → Reply → Type 0
TellsCall responder (call.State stream wait) told =
    (HasStream responder.numbers stream → TellsOrWaits (side_of responder) (summary_at responder stream) responder.numbers stream wait told) × (¬ (HasStream responder.numbers stream) → IsRefused NoStream told)
TellsCall responder (call.Got stream after) told =
    (IsJournalLine responder.service.host.journal.next after → told ≡ reply.Got stream after) × (¬ (IsJournalLine responder.service.host.journal.next after) → IsRefused UnknownLine told)
TellsCall responder (call.Outcome stream number life) told =
    (HasStream responder.numbers stream → life ≡ responder.numbers.life → TellsPresent (summary_at responder stream) responder.numbers responder.handshakes stream number told)
    × (HasStream responder.numbers stream → life ≢ responder.numbers.life → told ≡ reply.Fate stream number life)
    × (¬ (HasStream responder.numbers stream) → IsRefused NoStream told)
TellsCall responder _ told = Unit {0}

-- a call by which nothing is to be put or taken
abbrev pub IsQuestion : Call → Type 0
IsQuestion (call.Put claim) = ⊥
IsQuestion (call.PutNext stream) = ⊥
IsQuestion (call.Take claim wait) = ⊥
IsQuestion _ = Unit {0}
