-- How the handshakes of streams ended.
use Rattle.std.specs.Prelude.{◌≡◌, ℕ, ◌+◌, ◌<◌, ◌≤◌, ◌^◌, ◌==◌, nat_le, Bool, false, if◌then◌else◌, Option, Some, None, List, [], ◌∷◌, length, slice_get, find, option_map}
use Rattle.amo_archive.specs.declared.handshakes.Run.{Run}
use Rattle.amo_archive.specs.declared.handshakes.Ended.{Ended}
use Rattle.amo_archive.specs.declared.handshakes.Handshakes.{Handshakes}

-- the end of a handshake: how many messages travelled in it, and whether they were got; else each was got or lost
abbrev pub Ending : Type 0
Ending = ℕ × Bool

-- how many messages travelled in handshakes that ended
abbrev pub messages_of : List Ending → ℕ
messages_of [] = 0
messages_of ((messages, got) ∷ past) = messages_of past + messages

-- Whether the message of a number was got, by the ends of a stream's handshakes, newest first: messages are numbered from 1 on, in the order in which their handshakes
-- ended. Of one whose handshake has not ended it is not known that it was.
abbrev pub was_got : ℕ → List Ending → Bool
was_got number [] = false
was_got number ((messages, got) ∷ past) = if nat_le number (messages_of past) then was_got number past else (if nat_le number (messages_of past + messages) then got else false)

-- the same, where it is known
abbrev pub known_by : ℕ → List Ending → Option Bool
known_by number past = if nat_le number (messages_of past) then Some (was_got number past) else None

-- what runs of messages say of the one of a number
abbrev pub known_in : ℕ → List Run → Option Bool
known_in number runs = option_map (λ (run : Run). run.was_got) (find (λ (run : Run). nat_le number run.last) runs)

-- the number of the last message of runs
abbrev pub last_number : List Run → ℕ
last_number [] = 0
last_number (run ∷ []) = run.last
last_number (run ∷ next ∷ runs) = last_number (next ∷ runs)

-- runs tell of these ends of a stream's handshakes, as far as there are such numbers
pub record Keeps (runs : List Run) (past : List Ending) : Type 0 where
  pub last : messages_of past < 2 ^ 64 → last_number runs ≡ messages_of past
  pub known : (number : ℕ) → 1 ≤ number → messages_of past < 2 ^ 64 → known_in number runs ≡ known_by number past

-- the ends of the handshakes of each stream, newest first
abbrev pub Endings : Type 0
Endings = ℕ → List Ending

-- the same, and then this one of a stream
abbrev pub with_end : ℕ → Ending → Endings → Endings
with_end stream one ends = λ other. if other == stream then (one ∷ ends other) else ends other

-- of how many streams it is kept
abbrev pub streams_in : Handshakes → ℕ
streams_in handshakes = length handshakes.streams.items

-- what is kept of the streams tells of these ends
abbrev pub KeepsAll : Handshakes → Endings → Type 0
KeepsAll handshakes ends = (place : ℕ) (ended : Ended) → slice_get handshakes.streams.items place ≡ Some ended → Keeps ended.runs.items (ends (place + 1))

-- Whether the message of a number was got, by the ends of its stream's handshakes, where what is kept tells of these.
abbrev pub KnowsGot : Handshakes → ℕ → ℕ → Bool → Type 0
KnowsGot handshakes stream number got =
    1 ≤ number → (1 ≤ stream) × (stream ≤ streams_in handshakes) → (ends : Endings) → messages_of (ends stream) < 2 ^ 64 → KeepsAll handshakes ends → got ≡ was_got number (ends stream)
