-- The turns of a life: what was asked for by numbers, and answered.
use Rattle.std.specs.Prelude.{◌≡◌, ℕ, ◌+◌, ◌==◌, if◌then◌else◌, Option, None, Some, List, [], ◌∷◌, length}
use Rattle.amo_door.specs.declared.claim.Claim.{Claim}
use Rattle.amo_door.specs.declared.claim.Made.{Made}
use Rattle.amo_door.specs.declared.claim.Decision.{Decision}
use Rattle.amo_door.specs.declared.claim.Decision.TheVariants.{Next, Again, Conflict, OtherLife}
use Rattle.amo_door.specs.Numbers.{Table, HasStream, last_of, number_of, decision}

-- what a claim is answered
pub data Answer : Type 0 where
  -- this was made for it
  Fresh : (made : Made) → Answer
  -- this was made for it before
  Repeated : (made : Made) → Answer
  -- the last number of its stream is this
  Stands : (number : ℕ) → Answer
  -- the host lives another life
  Gone : Answer
  -- the host could not do it now
  NotNow : Answer

-- a turn: a claim, with the message that it brings, and its answer; or what was put on a stream without a number
pub data Turn : Type 0 where
  Claimed : (claim : Claim) → (brings : Option (List ℕ)) → (answer : Answer) → Turn
  Unclaimed : (stream : ℕ) → (made : Made) → Turn

-- what an answer says was made now
abbrev pub fresh : Answer → Option Made
fresh (Fresh made) = Some made
fresh _ = None

-- what an answer says was made for the claim, now or before
abbrev pub told : Answer → Option Made
told (Fresh made) = Some made
told (Repeated made) = Some made
told _ = None

-- what is put in front of a list
abbrev pub in_front : Option Made → List Made → List Made
in_front None all = all
in_front (Some made) all = made ∷ all

-- what a turn made on a stream
abbrev pub makes : ℕ → Turn → Option Made
makes stream (Claimed claim brings answer) = if claim.stream == stream then fresh answer else None
makes stream (Unclaimed of made) = if of == stream then Some made else None

-- what turns made on a stream, newest first as they are
abbrev pub all_made : ℕ → List Turn → List Made
all_made stream [] = []
all_made stream (turn ∷ past) = in_front (makes stream turn) (all_made stream past)

-- the first of a list
abbrev pub newest : List Made → Option Made
newest [] = None
newest (made ∷ older) = Some made

-- what turns made last on a stream
abbrev pub last_made : ℕ → List Turn → Option Made
last_made stream turns = newest (all_made stream turns)

-- a message is the one that a claim brought, where it brought one
abbrev pub Bears : Option (List ℕ) → List ℕ → Type 0
Bears None message = Unit {0}
Bears (Some brought) message = message ≡ brought

-- this was made for such a claim: under its number, for its caller, with its message
pub record IsMadeFor (claim : Claim) (brings : Option (List ℕ)) (made : Made) : Type 0 where
  pub number : made.number ≡ claim.number
  pub by : made.by ≡ Some claim.by
  pub message : Bears brings made.message

-- what a claim may be answered, where this was decided and this was made last on its stream
abbrev pub Answers : Decision → Option Made → Claim → Option (List ℕ) → Answer → Type 0
Answers Next last claim brings (Fresh made) = IsMadeFor claim brings made
Answers Next last claim brings NotNow = Unit {0}
Answers Again last claim brings (Repeated made) = last ≡ Some made
Answers Conflict last claim brings (Stands number) = number ≡ number_of last
Answers OtherLife last claim brings Gone = Unit {0}
Answers _ last claim brings _ = ⊥

-- a turn is right behind others
abbrev pub IsRightTurn : List ℕ → List Turn → Turn → Type 0
IsRightTurn life past (Claimed claim brings answer) =
    Answers (decision life (last_made claim.stream past) claim brings) (last_made claim.stream past) claim brings answer
IsRightTurn life past (Unclaimed stream made) = (made.number ≡ number_of (last_made stream past) + 1) × (made.by ≡ None)

-- each turn of this life is right behind those before it; the newest is first
abbrev pub AreRight : List ℕ → List Turn → Type 0
AreRight life [] = Unit {0}
AreRight life (turn ∷ past) = IsRightTurn life past turn × AreRight life past

-- these turns are right, and what is kept is what they made last on each stream
pub record Keeps (turns : List Turn) (table : Table) : Type 0 where
  pub right : AreRight table.life turns
  pub lasts : (stream : ℕ) → HasStream table stream → last_of table stream ≡ last_made stream turns

-- what was made is numbered: each has one more than how many were made before it
abbrev pub AreNumbered : List Made → Type 0
AreNumbered [] = Unit {0}
AreNumbered (made ∷ older) = (made.number ≡ length older + 1) × AreNumbered older
