-- The statuses with which a call ends.
use Rattle.std.specs.Prelude.{◌≡◌, ◌≢◌, ◌⊎◌, ◌≤◌, ℕ, None, Some, List}
use Rattle.amo_door.specs.declared.answer.Fate.{Fate}
use Rattle.amo_door.specs.declared.answer.Fate.TheVariants as fate
use Rattle.amo_call.specs.declared.kept.Kept.{Kept}
use Rattle.amo_call.specs.declared.putting.Order.{Order}
use Rattle.amo_call.specs.declared.putting.PutTold.{PutTold}
use Rattle.amo_call.specs.declared.putting.PutTold.TheVariants as put
use Rattle.amo_call.specs.declared.taking.TakeTold.{TakeTold}
use Rattle.amo_call.specs.declared.taking.TakeTold.TheVariants as take
use Rattle.amo_call.specs.Heard.{Heard}
use Rattle.amo_call.specs.Kept.{done_of, kept_text}
use Rattle.amo_call.specs.Puts.{ToldPut}
use Rattle.amo_settings.specs.declared.settings.DoorCall.{DoorCall}
use Rattle.amo_settings.specs.declared.settings.DoorCall.TheVariants.{Put, Get, Done, Status, Watch}

-- that of what became of a message
abbrev pub fate_status : Fate → ℕ
fate_status fate.Got = 0
fate_status fate.Gone = 6
fate_status fate.Open = 7
fate_status fate.Unknown = 8
fate_status fate.Settled = 9
fate_status fate.Never = 6

-- that of what is told of a put
abbrev pub put_status : PutTold → ℕ
put_status (put.Put claim line) = 0
put_status (put.Became fate) = fate_status fate
put_status put.Doubtful = 8
put_status (put.Later response) = 5
put_status put.NoNumber = 5
put_status put.NoAnswer = 4
put_status put.OtherCall = 2
put_status (put.Refused response) = 10
put_status (put.Untold response) = 8

-- a put ended with the status of what is told of it, and that is what answers told
pub record EndsPut (heard : Heard → Type 0) (order : Order) (reached : Kept → Type 0) (silent : Type 0) (saved : List ℕ) (status : ℕ) : Type 0 where
  pub told : PutTold
  pub is_told : ToldPut heard order reached silent saved told
  pub is_status : status ≡ put_status told

-- the file of a call says by now that its message is done; or no message was got by it
abbrev pub EndsDone : Kept → List ℕ → ℕ → Type 0
EndsDone kept saved status = ((status ≡ 0) × ((done : Kept) × (done_of kept ≡ Some done) × (saved ≡ kept_text done))) ⊎ ((status ≡ 2) × (done_of kept ≡ None))

-- that of what is told of a take
abbrev pub take_status : TakeTold → ℕ
take_status (take.Taken claim line message) = 0
take_status take.Nothing = 5
take_status take.Doubtful = 8
take_status take.NoAnswer = 4
take_status take.OtherCall = 2
take_status (take.Refused response) = 10

-- that of a put, also of bytes that are no message
abbrev pub IsOfPut : ℕ → Type 0
IsOfPut status = (status ≢ 1) × (status ≢ 3) × (status ≤ 10)

-- that of a take: what became of a message it does not tell
abbrev pub IsOfGet : ℕ → Type 0
IsOfGet status = IsOfPut status × (status ≢ 6) × (status ≢ 7) × (status ≢ 9)

-- that of a message that was noted as done, or of a file that keeps no such call
abbrev pub IsOfDone : ℕ → Type 0
IsOfDone status = (status ≡ 0) ⊎ (status ≡ 2)

-- that of a watch: no answer came, or none goes on, or the door refuses it
abbrev pub IsOfWatch : ℕ → Type 0
IsOfWatch status = (status ≡ 4) ⊎ (status ≡ 10)

-- that of a question for how a stream is
abbrev pub IsOfStatus : ℕ → Type 0
IsOfStatus status = (status ≡ 0) ⊎ IsOfWatch status

-- that of a call
abbrev pub IsStatusOf : DoorCall → ℕ → Type 0
IsStatusOf (Put stream state message) status = IsOfPut status
IsStatusOf (Get stream state) status = IsOfGet status
IsStatusOf (Done stream state) status = IsOfDone status
IsStatusOf (Status stream) status = IsOfStatus status
IsStatusOf (Watch after) status = IsOfWatch status
