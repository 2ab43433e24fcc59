-- What waits on streams, each item on its stream.
use Rattle.std.specs.Prelude.{ℕ, zero, suc, ◌==◌, if◌then◌else◌, List, [], ◌∷◌, ◌++◌, get_or}
use Rattle.amo_lines.specs.declared.named.NamedMessage.{NamedMessage}

-- a message on a stream, with the id of its line
abbrev pub Addressed : Type 0
Addressed = ℕ × NamedMessage

-- those of each stream, from stream 1 on, in the order in which they came
abbrev pub BacklogState : Type 0
BacklogState = List (List NamedMessage)

module _ {A : Type 0} where
  -- what is on this stream
  abbrev pub kept_on : ℕ → List (List A) → List A
  kept_on zero kept = []
  kept_on (suc place) kept = get_or kept place []

  -- the item, if it is on this stream
  abbrev pub message_on : ℕ → ℕ × A → List A
  message_on stream (at, item) = if stream == at then (item ∷ []) else []

  -- those of these items that are on this stream, in their order
  abbrev pub messages_on : ℕ → List (ℕ × A) → List A
  messages_on stream [] = []
  messages_on stream (one ∷ more) = message_on stream one ++ messages_on stream more
