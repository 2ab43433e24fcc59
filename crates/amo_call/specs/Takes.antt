-- Takes under way, and what is told of them.
use Rattle.std.specs.Prelude.{◌≡◌, ◌≢◌, ℕ, ◌<◌, ◌≤◌, false, Option, None, Some, List, ◌⊎◌, codes}
use Rattle.amo_door.specs.declared.claim.Claim.{Claim}
use Rattle.amo_call.specs.declared.answer.Response.{Response}
use Rattle.amo_call.specs.declared.answer.StreamState.{StreamState}
use Rattle.amo_call.specs.declared.kept.Kept.{Kept}
use Rattle.amo_call.specs.declared.kept.Progress.{Progress}
use Rattle.amo_call.specs.declared.kept.Progress.TheVariants as progress
use Rattle.amo_call.specs.declared.pages.Page.{Page}
use Rattle.amo_call.specs.declared.taking.AfterTake.{AfterTake}
use Rattle.amo_call.specs.declared.taking.AfterTake.TheVariants as after
use Rattle.amo_call.specs.declared.taking.TakeTold.{TakeTold}
use Rattle.amo_call.specs.declared.taking.TakeTold.TheVariants as told
use Rattle.amo_call.specs.Answer.{TellsState}
use Rattle.amo_call.specs.Heard.{Answered, Heard, ToCall}
use Rattle.amo_call.specs.Kept.{kept_text}
use Rattle.amo_call.specs.Pages.{TellsNextLine, TellsPage, number_behind}
use Rattle.amo_call.specs.Request.{got_target, state_target}

-- a call is to take the next message of a stream: what it took is on this line of the journal or behind it
pub record IsTaking (stream from : ℕ) (call : Kept) : Type 0 where
  pub stream_is : call.claim.stream ≡ stream
  pub from_is : call.progress ≡ progress.Taking from

-- a call by which a message was taken, as its file says
pub record HasTaken (stream line : ℕ) (message : List ℕ) (call : Kept) : Type 0 where
  pub stream_is : call.claim.stream ≡ stream
  pub taken : call.progress ≡ progress.Taken line message

-- a call whose message, which was taken by this line, is done
pub record HasDone (stream line : ℕ) (call : Kept) : Type 0 where
  pub stream_is : call.claim.stream ≡ stream
  pub done : call.progress ≡ progress.Done line

-- a call of something else
pub record TakesNothing (stream : ℕ) (call : Kept) : Type 0 where
  pub not_taking : (from : ℕ) → ¬ (IsTaking stream from call)
  pub not_taken : (line : ℕ) (message : List ℕ) → ¬ (HasTaken stream line message call)
  pub not_done : (line : ℕ) → ¬ (HasDone stream line call)

-- a page tells that nothing was got of a stream by the lines that it reads, and they are read from this one on
pub record TellsNothingGot (stream from : ℕ) (page : Page) (response : Response) : Type 0 where
  pub told : TellsPage stream from page response
  pub none : page.first ≡ None
  pub whole : page.lines.from ≤ from

-- by no line from one on up to another one a message of a stream was got, as pages told
pub data NothingGot (heard : Heard → Type 0) (stream from : ℕ) : ℕ → Type 0 where
  IsUnread : NothingGot heard stream from from
  IsRead : (line : ℕ) (page : Page) (response : Response) → NothingGot heard stream from line → Answered heard (got_target stream line) response
      → TellsNothingGot stream line page response → NothingGot heard stream from page.lines.behind

-- the same, up to the journal's end
pub record NothingGotAtAll (heard : Heard → Type 0) (stream from behind : ℕ) : Type 0 where
  pub line : ℕ
  pub read : NothingGot heard stream from line
  pub response : Response
  pub answered : Answered heard (got_target stream line) response
  pub page : Page
  pub told : TellsNothingGot stream line page response
  pub last : page.lines.more ≡ false
  pub behind_is : page.lines.behind ≡ behind

-- the host lives another life than that of a call
pub record IsOver (heard : Heard → Type 0) (call : Kept) : Type 0 where
  pub response : Response
  pub answered : heard (ToCall call response)
  pub status : response.status ≡ 410

-- the life of a call is over, and it took nothing by any line of the journal, whose next line is this one
pub record NothingTaken (heard : Heard → Type 0) (stream : ℕ) (call : Kept) (behind : ℕ) : Type 0 where
  pub from : ℕ
  pub taking : IsTaking stream from call
  pub over : IsOver heard call
  pub nothing : NothingGotAtAll heard stream from behind

-- a call names the number behind the last one of its stream, in the life that the host lives, as the door told
pub record IsNextTake (heard : Heard → Type 0) (stream : ℕ) (by : List ℕ) (from : ℕ) (call : Kept) : Type 0 where
  pub taking : IsTaking stream from call
  pub by_is : call.claim.by ≡ by
  pub response : Response
  pub answered : Answered heard (state_target stream 0) response
  pub state : StreamState
  pub told : TellsState stream false state response
  pub life : call.claim.life ≡ state.life
  pub number : call.claim.number ≡ number_behind state.last

-- such a call that is the first one of its file: it takes from the next line of the journal on, as the door told
pub record IsFirstTake (heard : Heard → Type 0) (stream : ℕ) (by : List ℕ) (call : Kept) : Type 0 where
  pub from : ℕ
  pub response : Response
  pub answered : Answered heard (codes "/metrics") response
  pub told : TellsNextLine from response
  pub next : IsNextTake heard stream by from call

-- the call behind one whose message, which was taken by this line, is done: for the next number, in the same life, by the same caller
abbrev pub take_behind : Claim → ℕ → Kept
take_behind claim line = record {
  claim = record { stream = claim.stream; number = number_behind claim.number; life = claim.life; by = claim.by };
  progress = progress.Taking (number_behind line);
}

-- The calls that a take comes to from what its file had. Each is the first, or comes behind one whose message is done, or in the place of one that took
-- nothing: so no message is passed over.
pub data TakesBy (heard : Heard → Type 0) (stream : ℕ) (by : List ℕ) (found : Option Kept) : Kept → Type 0 where
  IsFound : (call : Kept) → found ≡ Some call → TakesBy heard stream by found call
  Begins : (call : Kept) → found ≡ None → IsFirstTake heard stream by call → TakesBy heard stream by found call
  Follows : (before call : Kept) (line : ℕ) → TakesBy heard stream by found before → HasDone stream line before → call ≡ take_behind before.claim line
      → TakesBy heard stream by found call
  GoesOn : (before call : Kept) (behind : ℕ) → TakesBy heard stream by found before → NothingTaken heard stream before behind
      → IsNextTake heard stream by behind call → TakesBy heard stream by found call

-- an answer names the stream and the number of a claim, and the line by which a message was taken for it
pub record NamesMessage (claim : Claim) (line : ℕ) (response : Response) : Type 0 where
  pub stream_is : response.stream ≡ Some claim.stream
  pub number_is : response.number ≡ Some claim.number
  pub line_is : response.line ≡ Some line

-- the message of a claim was taken now or before, by this line, and its bytes are these
pub record TellsTaken (claim : Claim) (line : ℕ) (message : List ℕ) (response : Response) : Type 0 where
  pub status : response.status ≡ 200
  pub names : NamesMessage claim line response
  pub body : response.body.items ≡ message

-- the door told that a call took this message
pub record WasTaken (heard : Heard → Type 0) (call : Kept) (line : ℕ) (message : List ℕ) : Type 0 where
  pub response : Response
  pub answered : heard (ToCall call response)
  pub told : TellsTaken call.claim line message response

-- the life of a call is over, and this message is the first one that was got of its stream by the lines from its own one on, as pages told
pub record WasGot (heard : Heard → Type 0) (stream : ℕ) (call : Kept) (line : ℕ) (message : List ℕ) : Type 0 where
  pub from : ℕ
  pub taking : IsTaking stream from call
  pub over : IsOver heard call
  pub at : ℕ
  pub read : NothingGot heard stream from at
  pub response : Response
  pub answered : Answered heard (got_target stream at) response
  pub page : Page
  pub told : TellsPage stream at page response
  pub whole : page.lines.from ≤ at
  pub first : page.first ≡ Some (record { line = line; message = message })

-- a message was taken for a claim, by this line: by a call that its file has so already, or by one of which the door told it, or its journal
pub data IsToldTake (heard : Heard → Type 0) (stream : ℕ) (reached : Kept → Type 0) (claim : Claim) (line : ℕ) (message : List ℕ) : Type 0 where
  IsKept : (call : Kept) → reached call → call.claim ≡ claim → HasTaken stream line message call → IsToldTake heard stream reached claim line message
  IsAnswered : (call : Kept) (from : ℕ) → reached call → call.claim ≡ claim → IsTaking stream from call → WasTaken heard call line message
      → IsToldTake heard stream reached claim line message
  IsGot : (call : Kept) → reached call → call.claim ≡ claim → WasGot heard stream call line message → IsToldTake heard stream reached claim line message

-- a call took nothing for now: no message came, or it is put off; or its life is over, and it took nothing
pub data IsToldNothing (heard : Heard → Type 0) (stream : ℕ) (reached : Kept → Type 0) : Type 0 where
  IsEmpty : (call : Kept) (from : ℕ) → reached call → IsTaking stream from call → (response : Response) → heard (ToCall call response)
      → (response.status ≡ 204) ⊎ ((response.status ≡ 408) ⊎ (response.status ≡ 503)) → IsToldNothing heard stream reached
  IsBehind : (call : Kept) (behind : ℕ) → reached call → NothingTaken heard stream call behind → IsToldNothing heard stream reached

-- another program takes on the stream; or the life of a call is over, and lines that it may have taken by are not read any more
pub data IsToldLoss (heard : Heard → Type 0) (stream : ℕ) (reached : Kept → Type 0) : Type 0 where
  IsConflict : (call : Kept) (from : ℕ) → reached call → IsTaking stream from call → (response : Response) → heard (ToCall call response) → response.status ≡ 409
      → IsToldLoss heard stream reached
  IsForgotten : (call : Kept) (from line : ℕ) → reached call → IsTaking stream from call → IsOver heard call → NothingGot heard stream from line
      → (page : Page) (response : Response) → Answered heard (got_target stream line) response → TellsPage stream line page response → line < page.lines.from
      → IsToldLoss heard stream reached

-- an answer to a take is none of those from which something follows
pub record TellsNoTake (response : Response) : Type 0 where
  pub no_message : response.status ≢ 200
  pub no_emptiness : response.status ≢ 204
  pub no_conflict : response.status ≢ 409
  pub no_other_life : response.status ≢ 410
  pub no_slowness : response.status ≢ 408
  pub no_delay : response.status ≢ 503

-- the door refused a call, or a question on the way to it, by this answer
pub data IsToldNo (heard : Heard → Type 0) (stream : ℕ) (reached : Kept → Type 0) (response : Response) : Type 0 where
  OfCall : (call : Kept) (from : ℕ) → reached call → IsTaking stream from call → heard (ToCall call response) → TellsNoTake response → IsToldNo heard stream reached response
  OfCounts : Answered heard (codes "/metrics") response → ((line : ℕ) → ¬ (TellsNextLine line response)) → IsToldNo heard stream reached response
  OfState : Answered heard (state_target stream 0) response → ((state : StreamState) → ¬ (TellsState stream false state response)) → IsToldNo heard stream reached response
  OfPage : (call : Kept) (from line : ℕ) → reached call → IsTaking stream from call → IsOver heard call → NothingGot heard stream from line
      → Answered heard (got_target stream line) response → IsToldNo heard stream reached response

-- the file keeps another call, and nothing was asked
pub record IsToldElse (stream : ℕ) (reached : Kept → Type 0) (saved : List ℕ) : Type 0 where
  pub call : Kept
  pub is_reached : reached call
  pub nothing : TakesNothing stream call
  pub same : saved ≡ kept_text call

-- Why this is told of a take that came to such calls, with what its file has then; `silent` says that no answer came to what was asked last.
abbrev pub ToldTake : (Heard → Type 0) → ℕ → (Kept → Type 0) → Type 0 → List ℕ → TakeTold → Type 0
ToldTake heard stream reached silent saved (told.Taken claim line message) = IsToldTake heard stream reached claim line message
ToldTake heard stream reached silent saved told.Nothing = IsToldNothing heard stream reached
ToldTake heard stream reached silent saved told.Doubtful = IsToldLoss heard stream reached
ToldTake heard stream reached silent saved told.NoAnswer = silent
ToldTake heard stream reached silent saved told.OtherCall = IsToldElse stream reached saved
ToldTake heard stream reached silent saved (told.Refused response) = IsToldNo heard stream reached response

-- the call that is made next, which a take came to
pub record IsNext (stream : ℕ) (reached : Kept → Type 0) (call : Kept) : Type 0 where
  pub is_reached : reached call
  pub from : ℕ
  pub taking : IsTaking stream from call

-- what comes of the call that a file has: what it took is told, or it is made
abbrev pub after_by : Claim → Progress → AfterTake
after_by claim (progress.Taken line message) = after.Told (told.Taken claim line message)
after_by claim (progress.Taking from) = after.Turn (record { claim = claim; progress = progress.Taking from })
after_by claim _ = after.Told told.OtherCall

abbrev pub after_of : Kept → AfterTake
after_of call = after_by call.claim call.progress

-- a message is told for a claim, as this answer tells it
abbrev pub TellsTakenFor : Claim → Response → AfterTake → Type 0
TellsTakenFor claim response (after.Told (told.Taken for line message)) = (claim ≡ for) × TellsTaken claim line message response
TellsTakenFor claim response _ = ⊥

-- the take is over, or its next call is known
abbrev pub ComesToTake : (Heard → Type 0) → ℕ → (Kept → Type 0) → Type 0 → List ℕ → AfterTake → Type 0
ComesToTake heard stream reached silent saved (after.Told told) = ToldTake heard stream reached silent saved told
ComesToTake heard stream reached silent saved (after.Turn call) = IsNext stream reached call

-- behind a call that took nothing another one is named, or it is told that nothing came
abbrev pub BeginsBehind : (Heard → Type 0) → ℕ → List ℕ → ℕ → Type 0 → List ℕ → AfterTake → Type 0
BeginsBehind heard stream by from silent saved result =
    (result ≡ after.Told told.Nothing) ⊎ ComesToTake heard stream (IsNextTake heard stream by from) silent saved result
