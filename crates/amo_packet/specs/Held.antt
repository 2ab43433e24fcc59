-- How a batch is held.
use Rattle.std.specs.Prelude.{◌≡◌, ℕ, ◌≤◌, List, [], length, replicate}
use Rattle.std.specs.List.{AllByRecursion}
use Rattle.amo_packet.specs.declared.batch.Held.{Held}
use Rattle.amo_packet.specs.declared.batch.Held.TheVariants.{Blank, Full}
use Rattle.amo_packet.specs.Batch.{max_batch}

-- as many messages without a byte, or these
abbrev pub held_messages : Held → List (List ℕ)
held_messages (Blank count) = replicate count []
held_messages (Full messages) = messages.value.items

-- some message that is held in a box has a byte
abbrev pub IsBoxedForBytes : Held → Type 0
IsBoxedForBytes (Blank count) = Unit {0}
IsBoxedForBytes (Full messages) = ¬ AllByRecursion (λ m. m ≡ []) messages.value.items

-- what is held is a batch, and takes memory only for bytes
pub record IsHeld (held : Held) : Type 0 where
  pub some : 1 ≤ length (held_messages held)
  pub most : length (held_messages held) ≤ max_batch
  pub boxed : IsBoxedForBytes held
