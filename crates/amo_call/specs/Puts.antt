-- Puts under way, and what is told of them.
use Rattle.std.specs.Prelude.{◌≡◌, ◌≢◌, ℕ, ◌+◌, ◌<◌, ◌^◌, true, Option, None, Some, List, [], ◌⊎◌}
use Rattle.amo_door.specs.declared.answer.Fate.{Fate}
use Rattle.amo_door.specs.declared.answer.Fate.TheVariants as fate
use Rattle.amo_door.specs.declared.claim.Claim.{Claim}
use Rattle.amo_door.specs.declared.claim.EventPlace.{EventPlace}
use Rattle.amo_call.specs.declared.answer.Response.{Response}
use Rattle.amo_call.specs.declared.answer.StreamState.{StreamState}
use Rattle.amo_call.specs.declared.kept.Kept.{Kept}
use Rattle.amo_call.specs.declared.kept.Progress.TheVariants as progress
use Rattle.amo_call.specs.declared.putting.AfterPut.{AfterPut}
use Rattle.amo_call.specs.declared.putting.AfterPut.TheVariants as after
use Rattle.amo_call.specs.declared.putting.Order.{Order}
use Rattle.amo_call.specs.declared.putting.PutTold.{PutTold}
use Rattle.amo_call.specs.declared.putting.PutTold.TheVariants as told
use Rattle.amo_call.specs.declared.putting.PutTurn.{PutTurn}
use Rattle.amo_call.specs.Answer.{TellsConflict, TellsFate, TellsPut, TellsState, TellsUnput}
use Rattle.amo_call.specs.Heard.{Answered, Heard, ToCall, ToFirst}
use Rattle.amo_call.specs.Kept.{kept_text}
use Rattle.amo_call.specs.Request.{outcome_target, state_target}

-- a call is to put the message of an order
pub record IsPutting (order : Order) (call : Kept) : Type 0 where
  pub stream : call.claim.stream ≡ order.stream
  pub message : call.progress ≡ progress.Putting order.message

-- a call by which it was put, as its file says
pub record IsPut (order : Order) (call : Kept) (line : ℕ) : Type 0 where
  pub stream : call.claim.stream ≡ order.stream
  pub message : call.progress ≡ progress.Put line order.message

-- a call of something else
pub record IsOther (order : Order) (call : Kept) : Type 0 where
  pub no_put : ¬ (IsPutting order call)
  pub not_made : (line : ℕ) → ¬ (IsPut order call line)

-- the message of a call was not put by it, and will not be
pub data NothingPut (heard : Heard → Type 0) (call : Kept) : Type 0 where
  -- its number is that of another program's message
  IsTaken : (response : Response) → heard (ToCall call response) → TellsConflict call.claim true call.claim.number response → NothingPut heard call
  -- it was made once, when another number was next
  WasRefused : (response : Response) (last : ℕ) → heard (ToFirst call response) → TellsConflict call.claim true last response → NothingPut heard call
  -- it was made once, when the host lived another life
  IsLate : (response : Response) → heard (ToFirst call response) → response.status ≡ 410 → NothingPut heard call
  -- its life is over, and it was never put in that
  NeverWas : (response : Response) → Answered heard (outcome_target call.claim) response → TellsFate call.claim fate.Never response → NothingPut heard call

-- the message of an order may be given a number: its file has no call, or one that was to put it and put nothing
pub data MayPut (heard : Heard → Type 0) (order : Order) (saved : List ℕ) : Type 0 where
  PutsFirst : saved ≡ [] → MayPut heard order saved
  PutsAnew : (before : Kept) → saved ≡ kept_text before → IsPutting order before → NothingPut heard before → MayPut heard order saved

-- a call names the number behind the last one of its stream, in the life that the host lives, as the door told
pub record IsNextPut (heard : Heard → Type 0) (order : Order) (call : Kept) : Type 0 where
  pub putting : IsPutting order call
  pub by : call.claim.by ≡ order.by
  pub response : Response
  pub answered : Answered heard (state_target order.stream 0) response
  pub state : StreamState
  pub told : TellsState order.stream true state response
  pub life : call.claim.life ≡ state.life
  pub number : call.claim.number ≡ state.last + 1
  pub fits : call.claim.number < 2 ^ 64

-- The calls that a put comes to from what its file had. Each is the first, or put in the place of one that put nothing: so no message has two numbers.
pub data ComesTo (heard : Heard → Type 0) (order : Order) (found : Option Kept) : Kept → Type 0 where
  IsFound : (call : Kept) → found ≡ Some call → ComesTo heard order found call
  Begins : (call : Kept) → found ≡ None → IsNextPut heard order call → ComesTo heard order found call
  GoesOn : (before call : Kept) → ComesTo heard order found before → NothingPut heard before → IsNextPut heard order call → ComesTo heard order found call

-- the door told that the message of a call was put, by this line
pub record WasPut (heard : Heard → Type 0) (call : Kept) (line : ℕ) : Type 0 where
  pub response : Response
  pub answered : heard (ToCall call response)
  pub place : EventPlace
  pub told : TellsPut call.claim place response
  pub line_is : place.line ≡ line

-- a message was put for a claim, by this line: by a call that its file has so already, or by one of which the door told it
pub record IsToldPut (heard : Heard → Type 0) (order : Order) (reached : Kept → Type 0) (claim : Claim) (line : ℕ) : Type 0 where
  pub call : Kept
  pub is_reached : reached call
  pub claim_is : call.claim ≡ claim
  pub by : IsPut order call line ⊎ (IsPutting order call × WasPut heard call line)

-- a life is over in which a message may have been put, and this became of it
pub record IsToldFate (heard : Heard → Type 0) (order : Order) (reached : Kept → Type 0) (what : Fate) : Type 0 where
  pub call : Kept
  pub is_reached : reached call
  pub putting : IsPutting order call
  pub response : Response
  pub answered : Answered heard (outcome_target call.claim) response
  pub told : TellsFate call.claim what response
  pub ever : what ≢ fate.Never

-- another number was next when a call was made again
pub record IsToldDoubt (heard : Heard → Type 0) (order : Order) (reached : Kept → Type 0) : Type 0 where
  pub call : Kept
  pub is_reached : reached call
  pub putting : IsPutting order call
  pub response : Response
  pub answered : heard (ToCall call response)
  pub last : ℕ
  pub told : TellsConflict call.claim true last response
  pub other : last ≢ call.claim.number

-- a call came too late, as another number was next, or the host lived another life
abbrev pub TellsOutrun : Claim → Response → Type 0
TellsOutrun claim response = ((last : ℕ) × TellsConflict claim true last response) ⊎ (response.status ≡ 410)

-- A call was put off by this answer and not made, as its host says or since it was made once; or it was made once and put nothing, as this answer tells. Then its
-- file has it no more: so the same call again is a new one, and nobody asks what became of one that put nothing.
pub data IsToldLater (heard : Heard → Type 0) (order : Order) (reached : Kept → Type 0) (saved : List ℕ) (response : Response) : Type 0 where
  IsLater : (call : Kept) → reached call → IsPutting order call → heard (ToCall call response) → TellsUnput response
      → IsToldLater heard order reached saved response
  IsFirst : (call : Kept) → reached call → IsPutting order call → heard (ToFirst call response) → (response.status ≡ 408) ⊎ (response.status ≡ 503)
      → IsToldLater heard order reached saved response
  IsOutrun : (call : Kept) → reached call → IsPutting order call → heard (ToFirst call response) → TellsOutrun call.claim response → saved ≡ []
      → IsToldLater heard order reached saved response

-- the life has no number more
pub record IsToldLast (heard : Heard → Type 0) (order : Order) : Type 0 where
  pub response : Response
  pub answered : Answered heard (state_target order.stream 0) response
  pub state : StreamState
  pub told : TellsState order.stream true state response
  pub last : state.last + 1 ≡ 2 ^ 64

-- a call was put off that may have been made before, and its host says nothing of that
pub record IsToldDelay (heard : Heard → Type 0) (order : Order) (reached : Kept → Type 0) : Type 0 where
  pub call : Kept
  pub is_reached : reached call
  pub putting : IsPutting order call
  pub response : Response
  pub answered : heard (ToCall call response)
  pub status : (response.status ≡ 408) ⊎ (response.status ≡ 503)
  pub untold : ¬ (TellsUnput response)

-- what is told of a call that is put off: that nothing was put where its host says so, and else only where it is the first
abbrev pub TellsDelay : PutTurn → Response → PutTold → Type 0
TellsDelay turn response (told.Later other) = (other ≡ response) × ((turn.is_first ≡ true) ⊎ TellsUnput response)
TellsDelay turn response told.NoAnswer = ¬ (TellsUnput response)
TellsDelay turn response _ = ⊥

-- an answer to a put tells neither that it was made nor that nothing happened, and does not put it off
pub record TellsNoPut (claim : Claim) (response : Response) : Type 0 where
  pub no_place : (place : EventPlace) → ¬ (TellsPut claim place response)
  pub no_conflict : (last : ℕ) → ¬ (TellsConflict claim true last response)
  pub no_other_life : response.status ≢ 410
  pub no_slowness : response.status ≢ 408
  pub no_delay : response.status ≢ 503

-- what is told of a call that is refused: that it is, where it is the first; and else that it may have been put
abbrev pub TellsRefused : PutTurn → Response → PutTold → Type 0
TellsRefused turn response (told.Refused other) = (other ≡ response) × (turn.is_first ≡ true)
TellsRefused turn response (told.Untold other) = (other ≡ response) × (turn.is_first ≢ true)
TellsRefused turn response _ = ⊥

-- nothing was put, as the door refused by this answer what was asked first: a call, or how the stream is where none was made that may have put it
pub data IsToldRefusal (heard : Heard → Type 0) (order : Order) (reached : Kept → Type 0) (saved : List ℕ) (response : Response) : Type 0 where
  OfFirst : (call : Kept) → reached call → IsPutting order call → heard (ToFirst call response) → TellsNoPut call.claim response
      → IsToldRefusal heard order reached saved response
  OfState : MayPut heard order saved → Answered heard (state_target order.stream 0) response → ((state : StreamState) → ¬ (TellsState order.stream true state response))
      → IsToldRefusal heard order reached saved response

-- the door refused by this answer a call that may have been made before, or to tell what became of it
pub data IsToldUntold (heard : Heard → Type 0) (order : Order) (reached : Kept → Type 0) (response : Response) : Type 0 where
  OfCall : (call : Kept) → reached call → IsPutting order call → heard (ToCall call response) → TellsNoPut call.claim response → IsToldUntold heard order reached response
  OfFate : (call : Kept) → reached call → IsPutting order call → Answered heard (outcome_target call.claim) response
      → ((what : Fate) → ¬ (TellsFate call.claim what response)) → IsToldUntold heard order reached response

-- the file has another call
pub record IsToldOther (order : Order) (reached : Kept → Type 0) (saved : List ℕ) : Type 0 where
  pub call : Kept
  pub is_reached : reached call
  pub other : IsOther order call
  pub same : saved ≡ kept_text call

-- Why this is told of a put that came to such calls, with what its file has then; `silent` says that no answer came to what was asked last.
abbrev pub ToldPut : (Heard → Type 0) → Order → (Kept → Type 0) → Type 0 → List ℕ → PutTold → Type 0
ToldPut heard order reached silent saved (told.Put claim line) =
    (saved ≡ kept_text (record { claim = claim; progress = progress.Put line order.message })) × IsToldPut heard order reached claim line
ToldPut heard order reached silent saved (told.Became what) = IsToldFate heard order reached what
ToldPut heard order reached silent saved told.Doubtful = IsToldDoubt heard order reached
ToldPut heard order reached silent saved (told.Later response) = IsToldLater heard order reached saved response
ToldPut heard order reached silent saved told.NoNumber = IsToldLast heard order
ToldPut heard order reached silent saved told.NoAnswer = silent ⊎ IsToldDelay heard order reached
ToldPut heard order reached silent saved told.OtherCall = IsToldOther order reached saved
ToldPut heard order reached silent saved (told.Refused response) = IsToldRefusal heard order reached saved response
ToldPut heard order reached silent saved (told.Untold response) = IsToldUntold heard order reached response

-- The file has the call that is made next, which a put came to; `fresh` says that it was not made yet.
pub record IsTurn (order : Order) (reached : Kept → Type 0) (fresh : Type 0) (saved : List ℕ) (turn : PutTurn) : Type 0 where
  pub is_saved : saved ≡ kept_text turn.kept
  pub is_reached : reached turn.kept
  pub putting : IsPutting order turn.kept
  pub first : turn.is_first ≡ true → fresh

-- this was answered to the call of a turn
pub record IsAnswered (heard : Heard → Type 0) (turn : PutTurn) (response : Response) : Type 0 where
  pub call : heard (ToCall turn.kept response)
  pub first : turn.is_first ≡ true → heard (ToFirst turn.kept response)

-- the put is over, or its next call is known
abbrev pub HasPut : (Heard → Type 0) → Order → (Kept → Type 0) → Type 0 → Type 0 → List ℕ → AfterPut → Type 0
HasPut heard order reached fresh silent saved (after.Told told) = ToldPut heard order reached silent saved told
HasPut heard order reached fresh silent saved (after.Turn turn) = IsTurn order reached fresh saved turn

-- it is told what was answered to a call that was made once, and the file has that call no more
abbrev pub TellsOnce : Option Response → List ℕ → AfterPut → Type 0
TellsOnce once saved result = (response : Response) × (once ≡ Some response) × (result ≡ after.Told (told.Later response)) × (saved ≡ [])

-- behind a call that put nothing another one is named; or what was answered to it is told, where it was made once
abbrev pub BeginsAgain : (Heard → Type 0) → Order → Option Response → Type 0 → Type 0 → List ℕ → AfterPut → Type 0
BeginsAgain heard order once fresh silent saved result =
    TellsOnce once saved result ⊎ HasPut heard order (IsNextPut heard order) fresh silent saved result

-- what comes of the call that a file has
abbrev pub Resumes : Order → Kept → AfterPut → Type 0
Resumes order call (after.Turn turn) = (turn.kept ≡ call) × IsPutting order turn.kept × (turn.is_first ≢ true)
Resumes order call (after.Told (told.Put claim line)) = (call.claim ≡ claim) × IsPut order call line
Resumes order call (after.Told told.OtherCall) = IsOther order call
Resumes order call (after.Told _) = ⊥
