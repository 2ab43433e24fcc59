-- Streams that clients name, and what a put of a client does.
use Rattle.std.specs.Prelude.{◌≡◌, ℕ, Bool, ◌&&◌, nat_le, Option, Some, None, ◌∷◌}
use Rattle.amo_book.specs.Pass.{PassState, mine}
use Rattle.amo_lines.specs.declared.named.NamedMessage.{NamedMessage}
use Rattle.amo_live.specs.Host.{puts_in}

-- whether there is such a stream, of so many
abbrev pub has : ℕ → ℕ → Bool
has streams stream = nat_le 1 stream && nat_le stream streams

-- a message was put on a stream, once; or it came back with its id, and nothing was put
abbrev pub PutsNamed : PassState → PassState → ℕ → NamedMessage → Option NamedMessage → Type 0
PutsNamed v w stream named None = puts_in (mine w) ≡ (stream, named.message) ∷ puts_in (mine v)
PutsNamed v w stream named (Some back) = (back ≡ named) × (puts_in (mine w) ≡ puts_in (mine v))
