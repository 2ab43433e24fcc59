-- What a host of one side does not do, step by step.
use Rattle.std.proofs.Common.{◌≡◌, ℕ, List, Ok, Err, refl, sym, subst, ◌∙◌}
use Rattle.std.specs.Prelude.{IfOk, OnOk, Result}
use Rattle.amo_object.specs.declared.step.End.{End}
use Rattle.amo_object.specs.declared.step.End.TheVariants.{Receiver, Sender}
use Rattle.amo_book.specs.Pass.{PassState}
use Rattle.amo_live.specs.Callers.{GetsNone, MovesNone}
use Rattle.amo_live.specs.Noted.{JournalState}
use Rattle.amo_live.specs.Service.{PutsNone}
use Rattle.amo_door.specs.declared.answer.Answer.{Answer as DoorAnswer}
use Rattle.amo_door.specs.declared.call.Call.{Call}
use Rattle.amo_door.specs.declared.call.Call.TheVariants as call
use Rattle.amo_door.specs.declared.claim.Claim.{Claim}
use Rattle.amo_door.specs.declared.refusal.Refusal.TheVariants.{OtherSide}
use Rattle.amo_door.specs.Numbers.{Table}
use Rattle.amo_serve.specs.Calls.{AnswersCall, IsFor, WasRefused}
use Rattle.amo_serve.specs.Serving.{AnswersPut, AnswersUnclaimed, IsFull, IsPut, MovesAs, Takes}
use Rattle.amo_serve.specs.States.{TellsCall}
use Rattle.amo_serve.specs.declared.responder.Reply.{Reply}
use Rattle.amo_serve.specs.declared.responder.Responder.{Responder}
use Rattle.amo_serve.specs.declared.responder.taking.Taken.{Taken}
use Rattle.amo_serve.specs.declared.responder.taking.Taken.TheVariants as taken

-- nothing moved: so it is at a host of either side
pub moves_none : (side : End) (v w : PassState) → MovesNone v w → MovesAs side v w
moves_none Sender v w none = none.1
moves_none Receiver v w none = none.0

pub moves_still : (side : End) (v : PassState) → MovesAs side v v
moves_still Sender v = refl
moves_still Receiver v = refl

pub each_moves : {T E : Type 0} (result : Result T E) (side : End) (v : PassState) → OnOk result (MovesAs side v v)
each_moves (Ok value) side v = moves_still side v
each_moves (Err fault) side v = tt

-- one after the other
both_move : (side : End) (u v w : PassState) → MovesAs side u v → MovesAs side v w → MovesAs side u w
both_move Sender u v w one two = two ∙ one
both_move Receiver u v w one two = two ∙ one

-- also where the side is known under another name behind the first
pub moves_on : (side next : End) (u v w : PassState) → next ≡ side → MovesAs side u v → MovesAs next v w → MovesAs side u w
moves_on side next u v w same one two = both_move side u v w one (subst (λ (x : End). MovesAs x v w) same two)

-- the same of passes that are known under other names
pub moves_as : (side : End) (v w v' w' : PassState) → v' ≡ v → w' ≡ w → MovesAs side v w → MovesAs side v' w'
moves_as side v w v' w' a b moves = subst (λ (x : PassState). MovesAs side x w') (sym a) (subst (λ (x : PassState). MovesAs side v x) (sym b) moves)

-- by a claim to put nothing is got
pub put_gets_none : {S : Type 0} (s t : Table) (v w : PassState) (j k : JournalState S) (claim : Claim) (message : List ℕ) (answer : DoorAnswer) → AnswersPut s t v w j k claim message answer → GetsNone v w
put_gets_none s t v w j k claim message answer answers = answers.turn.gets

pub unclaimed_gets_none : {S : Type 0} (s t : Table) (v w : PassState) (j k : JournalState S) (stream : ℕ) (message : List ℕ) (answer : DoorAnswer) → AnswersUnclaimed s t v w j k stream message answer → GetsNone v w
unclaimed_gets_none s t v w j k stream message answer (IsPut made turn bears status body) = turn.gets
unclaimed_gets_none s t v w j k stream message answer (IsFull same none status) = none.0.1

-- and by one to take nothing is put
pub take_puts_none : {S E : Type 0} (result : Result Taken E) (s t : Table) (v w : PassState) (j k : JournalState S) (claim : Claim) → IfOk result (Takes s t v w j k claim) → OnOk result (PutsNone v w)
take_puts_none (Ok (taken.Answer answer)) s t v w j k claim answers = answers.turn.puts
take_puts_none (Ok (taken.NotYet back)) s t v w j k claim (same, kept, none) = none.0.0
take_puts_none (Err fault) s t v w j k claim none = tt

-- what is said of a sender's host, or of a receiver's, where it is one
pub gets_none_at : {T E : Type 0} (result : Result T E) (side : End) (v w : PassState) → side ≡ Sender → OnOk result (GetsNone v w) → OnOk result (MovesAs side v w)
gets_none_at result side v w is none = subst (λ (x : End). OnOk result (MovesAs x v w)) (sym is) none

pub puts_none_at : {T E : Type 0} (result : Result T E) (side : End) (v w : PassState) → side ≡ Receiver → OnOk result (PutsNone v w) → OnOk result (MovesAs side v w)
puts_none_at result side v w is none = subst (λ (x : End). OnOk result (MovesAs x v w)) (sym is) none

-- a call for hosts of the other side is told nothing of the host, and is refused
module _ {L S W : Type 0} (r s : Responder L S W) (message : List ℕ) (told : Reply) where
  pub astray_told : (asked : Call) → ¬ (IsFor r.side asked) → TellsCall r asked told
  astray_told (call.Put claim) other = tt
  astray_told (call.PutNext stream) other = tt
  astray_told (call.Take claim wait) other = tt
  astray_told (call.Outcome stream number life) other = absurd (other tt)
  astray_told (call.State stream wait) other = absurd (other tt)
  astray_told (call.Got stream after) other = absurd (other tt)
  astray_told (call.Events after) other = tt
  astray_told call.Host other = tt
  astray_told call.Metrics other = tt
  astray_told call.Health other = tt
  astray_told call.Page other = tt

  pub astray_answered : (asked : Call) → ¬ (IsFor r.side asked) → WasRefused OtherSide r s told → AnswersCall r s asked message told
  astray_answered (call.Put claim) other refused = (λ own. absurd (other own), λ no. refused)
  astray_answered (call.PutNext stream) other refused = (λ own. absurd (other own), λ no. refused)
  astray_answered (call.Take claim wait) other refused = (λ own. absurd (other own), λ no. refused)
  astray_answered (call.Outcome stream number life) other refused = tt
  astray_answered (call.State stream wait) other refused = tt
  astray_answered (call.Got stream after) other refused = tt
  astray_answered (call.Events after) other refused = tt
  astray_answered call.Host other refused = tt
  astray_answered call.Metrics other refused = tt
  astray_answered call.Health other refused = tt
  astray_answered call.Page other refused = tt
