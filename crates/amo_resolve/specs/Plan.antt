-- A plan for a list of calls: what must wait in the queue after each call that leaves a side down.
use Rattle.std.specs.Prelude.{◌≡◌, ℕ, suc, ◌+◌, ◌-◌, ◌<◌, ◌≤◌, ◌⊎◌, ◌||◌, Bool, true, false, not, if◌then◌else◌, Option, Some, None, List, [], ◌∷◌, ◌++◌, length, take, drop, reverse, get_or}
use Rattle.amo_object.specs.declared.step.End.TheVariants.{Sender, Receiver}
use Rattle.amo_object.specs.declared.step.Step.{Step}
use Rattle.amo_object.specs.declared.step.Step.TheVariants.{Put, Get, Ack, Crash, Recover}
use Rattle.amo_object.specs.Delivery.{messages_got, IsSubsequence}
use Rattle.amo_resolve.specs.declared.plan.Note.{Note}
use Rattle.amo_resolve.specs.declared.plan.Ahead.{Ahead}

-- the last element, if there is one
abbrev pub last : {X : Type 0} → List X → Option X
last [] = None
last (x ∷ []) = Some x
last (x ∷ y ∷ xs) = last (y ∷ xs)

-- losses can leave these few of many messages; where the last put must not be lost, the last one stays
abbrev pub Leaves : Bool → List (List ℕ) → List (List ℕ) → Type 0
Leaves false few many = IsSubsequence few many
Leaves true few many = IsSubsequence few many × (last few ≡ last many)

-- the next answer is yes, and no put comes before it
abbrev pub is_told_yes : List Step → Bool
is_told_yes [] = false
is_told_yes (Ack answer ∷ calls) = answer
is_told_yes (Put m ∷ calls) = false
is_told_yes (call ∷ calls) = is_told_yes calls

-- how many messages are got before the next answer or put
abbrev pub got_before_answer : List Step → ℕ
got_before_answer [] = 0
got_before_answer (Ack answer ∷ calls) = 0
got_before_answer (Put m ∷ calls) = 0
got_before_answer (Get m ∷ calls) = suc (got_before_answer calls)
got_before_answer (call ∷ calls) = got_before_answer calls

-- the next answer is no, and no put comes before it, and no call that leaves a side down
abbrev pub is_told_no : List Step → List Note → Bool
is_told_no [] notes = false
is_told_no (call ∷ calls) [] = false
is_told_no (Ack answer ∷ calls) (note ∷ notes) = not answer
is_told_no (Put m ∷ calls) (note ∷ notes) = false
is_told_no (call ∷ calls) (note ∷ notes) = if note.is_down then false else is_told_no calls notes

-- a queue of these messages may take the call, and what it then has is so
abbrev pub Takes : Step → List (List ℕ) → (List (List ℕ) → Type 0) → Type 0
Takes (Put m) messages Then = Then (messages ++ m ∷ [])
Takes (Get m) messages Then = (rest : List (List ℕ)) × (messages ≡ m ∷ rest) × Then rest
Takes (Ack true) messages Then = (messages ≡ []) × Then []
Takes call messages Then = Then messages

-- one of two statements
abbrev pub Choose : Bool → Type 0 → Type 0 → Type 0
Choose true First Second = First
Choose false First Second = Second

-- the messages that a note wants to wait, of those got later
abbrev pub wanted_of : List Step → Note → List (List ℕ)
wanted_of calls note = take note.wanted (messages_got calls)

-- with these messages waiting the calls go on as they are, without a loss up to the next one that leaves a
-- side down, and there losses can leave what is wanted
abbrev pub GoesOn : List Step → List Note → List (List ℕ) → Type 0
GoesOn [] notes messages = Unit {0}
GoesOn (call ∷ calls) [] messages = Unit {0}
GoesOn (call ∷ calls) (note ∷ notes) messages = Takes call messages (λ rest.
    Choose note.is_down (Leaves (is_told_yes calls) (wanted_of calls note) rest) (GoesOn calls notes rest))

-- a note is the least: if any messages let the calls go on, so do the wanted ones, and losses can leave these of the others
abbrev pub IsLeast : List Step → List Note → Note → Type 0
IsLeast calls notes note = (messages : List (List ℕ)) → GoesOn calls notes messages
    → GoesOn calls notes (wanted_of calls note) × Leaves (is_told_yes calls) (wanted_of calls note) messages

-- what holds of a note: where it says that a side is down, it is the least; and it tells whether the next answer is no
abbrev pub IsNoted : List Step → List Note → Note → Type 0
IsNoted calls notes note = (note.is_down ≡ true → IsLeast calls notes note)
    × (note.is_down ≡ true → is_told_yes calls ≡ true → note.wanted ≡ got_before_answer calls)
    × (note.is_told_no ≡ is_told_no calls notes)
    × (note.is_told_yes ≡ is_told_yes calls)
    × (note.wanted ≤ length (messages_got calls))

-- and of each of them
abbrev pub IsPlan : List Step → List Note → Type 0
IsPlan [] notes = Unit {0}
IsPlan (call ∷ calls) [] = ⊥
IsPlan (call ∷ calls) (note ∷ notes) = IsNoted calls notes note × IsPlan calls notes

-- whether the sender is down after a call
abbrev pub sender_after : Bool → Step → Bool
sender_after down (Crash Sender) = true
sender_after down (Recover Sender) = false
sender_after down call = down

-- whether the receiver is
abbrev pub receiver_after : Bool → Step → Bool
receiver_after down (Crash Receiver) = true
receiver_after down (Recover Receiver) = false
receiver_after down call = down

-- each note says whether a side is down after its call
abbrev pub MarksDown : Bool → Bool → List Step → List Note → Type 0
MarksDown sender receiver [] notes = Unit {0}
MarksDown sender receiver (call ∷ calls) [] = ⊥
MarksDown sender receiver (call ∷ calls) (note ∷ notes) = (note.is_down ≡ sender_after sender call || receiver_after receiver call)
    × MarksDown (sender_after sender call) (receiver_after receiver call) calls notes

-- there is a note for each call, which says whether a side is down after it, as at first none is
abbrev pub IsMarked : List Step → List Note → Type 0
IsMarked calls notes = MarksDown false false calls notes × (length notes ≡ length calls)

-- whether a side is down after each call, where these are down before
abbrev pub downs : Bool → Bool → List Step → List Bool
downs sender receiver [] = []
downs sender receiver (call ∷ calls) = (sender_after sender call || receiver_after receiver call)
    ∷ downs (sender_after sender call) (receiver_after receiver call) calls

-- of notes those of calls that leave a side down
abbrev pub noted_down : List Note → List Note
noted_down [] = []
noted_down (note ∷ notes) = if note.is_down then note ∷ noted_down notes else noted_down notes

-- these are the notes that a plan has of the calls that leave a side down, the last call's first
pub record IsPlanned (calls : List Step) (those : List Note) : Type 0 where
  pub notes : List Note
  pub marked : IsMarked calls notes
  pub plan : IsPlan calls notes
  pub kept : reverse those ≡ noted_down notes

-- the first `few` of the last `many` messages before a place are the last ones before it too
pub record IsBorder (got : List (List ℕ)) (end few many : ℕ) : Type 0 where
  pub within : few ≤ many
  pub same : take few (drop (end - many) got) ≡ take few (drop (end - few) got)

-- the longest border but for all of them
pub record IsLongest (got : List (List ℕ)) (end few many : ℕ) : Type 0 where
  pub border : IsBorder got end few many
  pub proper : few < many
  pub longest : (other : ℕ) → IsBorder got end other many → other < many → other ≤ few

-- for each number of the last messages before a place, from one on, their longest border
abbrev pub AreBorders : List (List ℕ) → ℕ → List ℕ → Type 0
AreBorders got end lengths = (many : ℕ) → 0 < many → many < length lengths → IsLongest got end (get_or lengths many 0) many

-- the borders of the first number of messages, each with the message before it, where it is this one and there are as many, are the borders of the longer one
pub record IsLonger (got : List (List ℕ)) (end limit few : ℕ) (message : List ℕ) (longer : ℕ) : Type 0 where
  pub within : longer ≤ limit
  pub from : (border : ℕ) → IsBorder got end (border + 1) longer
      → IsBorder got end border few × (border < limit) × (get_or got (end - 1 - border) [] ≡ message)
  pub to : (border : ℕ) → IsBorder got end border few → border < limit → get_or got (end - 1 - border) [] ≡ message
      → IsBorder got end (border + 1) longer

-- what a call that leaves a side down asks of those before it: the messages that are wanted there but for those got before it
abbrev pub wanted_after : List (List ℕ) → ℕ → ℕ → List (List ℕ)
wanted_after got here most = take (most - here) (drop here got)

-- messages with which calls go on are those got here but for the last ones, if these can be the first ones put; or they are
-- those got here and others, of which losses can leave what is wanted after them
pub record IsOpen (P : List (List ℕ) → Type 0) (got : List (List ℕ)) (here most spared : ℕ) (messages : List (List ℕ)) : Type 0 where
  pub mode : Bool
  pub lost : here ≡ most → mode ≡ false
  pub any : (others : List (List ℕ)) → Leaves mode (wanted_after got here most) others → P (take here got ++ others)
  pub fewer : here ≡ most → (border : ℕ) → IsBorder got here border spared → P (take (here - border) got)
  pub shape : ((here ≡ most) × ((border : ℕ) × IsBorder got here border spared × (messages ≡ take (here - border) got)))
      ⊎ ((others : List (List ℕ)) × (messages ≡ take here got ++ others) × Leaves mode (wanted_after got here most) others)

-- what is asked of messages with which calls go on, where they get these: the fields are those of `Ahead`
pub record Asks (here most spared : ℕ) (is_settled : Bool) (P : List (List ℕ) → Type 0) (got : List (List ℕ)) : Type 0 where
  pub enough : here ≤ length got
  pub enough_most : most ≤ length got
  pub spared_here : spared ≤ here
  pub spared_most : spared ≤ most
  pub none : here < most → spared ≡ 0
  pub all : is_settled ≡ true → spared ≡ 0
  pub fits : is_settled ≡ false → here ≤ most
  pub settled : is_settled ≡ true → (messages : List (List ℕ)) → P messages → messages ≡ take most got
  pub splits : is_settled ≡ false → (messages : List (List ℕ)) → P messages → IsOpen P got here most spared messages

-- what calls ask
pub record IsAhead (ahead : Ahead) (calls : List Step) (notes : List Note) : Type 0 where
  pub asks : Asks ahead.here ahead.most ahead.spared ahead.is_settled (GoesOn calls notes) (messages_got calls)
  pub got : ahead.got ≡ got_before_answer calls
  pub yes : ahead.is_told_yes ≡ is_told_yes calls
  pub no : ahead.is_told_no ≡ is_told_no calls notes

-- how many messages the first stretch of calls gets, with a call more before it
abbrev pub gets_here : Step → ℕ → ℕ
gets_here (Get m) here = here + 1
gets_here (Ack true) here = 0
gets_here call here = here

-- what holds after a call with this note, where the calls that come then go on
abbrev pub GoesAfter : List Step → List Note → Note → List (List ℕ) → Type 0
GoesAfter calls notes note rest = Choose note.is_down (Leaves (is_told_yes calls) (wanted_of calls note) rest) (GoesOn calls notes rest)

-- what calls ask right after a call with this note
pub record IsAfter (ahead : Ahead) (calls : List Step) (notes : List Note) (note : Note) : Type 0 where
  pub asks : Asks ahead.here ahead.most ahead.spared ahead.is_settled (GoesAfter calls notes note) (messages_got calls)
  pub got : ahead.got ≡ got_before_answer calls
  pub yes : ahead.is_told_yes ≡ is_told_yes calls
  pub no : ahead.is_told_no ≡ (if note.is_down then false else is_told_no calls notes)
