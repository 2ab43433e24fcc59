-- The messages of a batch: a list that is never empty.
use Rattle.std.specs.Prelude.{◌≡◌, ℕ, List, [], ◌∷◌}
use Rattle.std.specs.List.{AllByRecursion}
use Rattle.amo_packet.specs.Message.{IsShort}

-- how many messages a batch has at most
abbrev pub max_batch : ℕ
max_batch = 4

-- the first message, and those after it
pub record Batch : Type 0 where
  pub first : List ℕ
  pub rest : List (List ℕ)

-- all of them, in order
abbrev pub messages : Batch → List (List ℕ)
messages b = b.first ∷ b.rest

-- a batch of these
abbrev pub batch : List ℕ → List (List ℕ) → Batch
batch m rest = record { first = m; rest = rest }

-- a batch of one message
abbrev pub alone : List ℕ → Batch
alone m = batch m []

-- a list with a first message, as a batch
abbrev pub batch_from : List (List ℕ) → Batch
batch_from [] = alone []
batch_from (m ∷ ms) = batch m ms

-- each message keeps to its limit
abbrev pub AreShort : Batch → Type 0
AreShort b = AllByRecursion IsShort (messages b)

-- no message has a byte
abbrev pub AreBlank : Batch → Type 0
AreBlank b = AllByRecursion (λ m. m ≡ []) (messages b)
