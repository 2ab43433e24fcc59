-- Which calls may be named, and what may be noted of them.
use Rattle.std.specs.Prelude.{◌≡◌, ℕ, Some, List, [], codes}
use Rattle.amo_call.specs.declared.answer.Response.{Response}
use Rattle.amo_call.specs.declared.kept.Kept.{Kept}
use Rattle.amo_call.specs.declared.putting.Order.{Order}
use Rattle.amo_call.specs.Heard.{Answered, Heard}
use Rattle.amo_call.specs.Kept.{done_of, kept_text}
use Rattle.amo_call.specs.Pages.{TellsNextLine}
use Rattle.amo_call.specs.Puts.{IsNextPut, IsPut, IsToldPut, MayPut}
use Rattle.amo_call.specs.Takes.{HasDone, HasTaken, IsNextTake, IsToldTake, NothingTaken, take_behind}

-- a file has this call
abbrev pub HasCall : List ℕ → Kept → Type 0
HasCall saved call = saved ≡ kept_text call

-- A take may begin at a line of the journal: its file has no call, and the door told that this line is the next one; or it has one that took nothing by any
-- line before this one.
pub data MayTakeFrom (heard : Heard → Type 0) (stream from : ℕ) (saved : List ℕ) : Type 0 where
  TakesFirst : (response : Response) → saved ≡ [] → Answered heard (codes "/metrics") response → TellsNextLine from response → MayTakeFrom heard stream from saved
  TakesAnew : (before : Kept) → HasCall saved before → NothingTaken heard stream before from → MayTakeFrom heard stream from saved

-- A call may be named where its file has this: it puts a message that has no number, or takes behind all that was taken, as the door told; or it takes the
-- message behind one that is done.
pub data MayName (heard : Heard → Type 0) (saved : List ℕ) (call : Kept) : Type 0 where
  NamesPut : (order : Order) → MayPut heard order saved → IsNextPut heard order call → MayName heard saved call
  NamesTake : (stream from : ℕ) (by : List ℕ) → MayTakeFrom heard stream from saved → IsNextTake heard stream by from call → MayName heard saved call
  NamesNext : (before : Kept) (stream line : ℕ) → HasCall saved before → HasDone stream line before → call ≡ take_behind before.claim line → MayName heard saved call

-- The call of a file may be taken out of it where it was to put the message of an order, and put nothing.
abbrev pub MayForget : (Heard → Type 0) → List ℕ → Type 0
MayForget heard saved = (order : Order) × MayPut heard order saved

-- This may be noted where its file has the same call: that its message was put, or which one it took, as the door told; or that what it took is done.
pub data MayNote (heard : Heard → Type 0) (saved : List ℕ) (call : Kept) : Type 0 where
  NotesPut : (order : Order) (line : ℕ) → IsToldPut heard order (HasCall saved) call.claim line → IsPut order call line → MayNote heard saved call
  NotesTaken : (stream line : ℕ) (message : List ℕ) → IsToldTake heard stream (HasCall saved) call.claim line message → HasTaken stream line message call
      → MayNote heard saved call
  NotesDone : (before : Kept) → HasCall saved before → done_of before ≡ Some call → MayNote heard saved call
