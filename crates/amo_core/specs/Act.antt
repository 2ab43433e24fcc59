-- The messages that acts and replies bear.
use Rattle.std.specs.Prelude.{◌≡◌, ℕ, List, [], ◌∷◌}
use Rattle.std.specs.List.{AllByRecursion}
use Rattle.amo_packet.specs.Grammar.{messages_of}
use Rattle.amo_core.specs.declared.act.Act.{Act}
use Rattle.amo_core.specs.declared.act.Act.TheVariants.{Put, Deliver}
use Rattle.amo_core.specs.declared.reply.Reply.{Reply}
use Rattle.amo_core.specs.declared.reply.Reply.TheVariants as reply

-- the messages that an act brings to its side
abbrev pub brought_by : Act → List (List ℕ)
brought_by (Put m) = m ∷ []
brought_by (Deliver p word) = messages_of p.body
brought_by _ = []

-- the messages that a reply hands out
abbrev pub got_by : Reply → List (List ℕ)
got_by (reply.Got m) = m ∷ []
got_by _ = []

-- none of the messages has a byte, so that copies take no memory
abbrev pub AreEmpty : List (List ℕ) → Type 0
AreEmpty messages = AllByRecursion (λ m. m ≡ []) messages
