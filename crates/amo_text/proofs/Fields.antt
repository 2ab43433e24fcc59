-- What sides and streams are spelt by: fields, one each.
use Rattle.std.proofs.Common.{◌≡◌, ℕ, ◌<◌, List, [], ◌∷◌, codes, refl, true, ltb, arith}
use Rattle.std.specs.Fmt.{decimal}
use Rattle.std.specs.List.{list_all}
use Rattle.std.proofs.lemmas.Bool.{and_parts, ltb-true}
use Rattle.std.proofs.lemmas.Fmt.{decimal_injective}
use Rattle.amo_object.specs.declared.step.End.{End}
use Rattle.amo_object.specs.declared.step.End.TheVariants.{Sender, Receiver}
use Rattle.amo_packet.specs.Stream.{IsStream}
use Rattle.amo_text.specs.Line.{IsField}
use Rattle.amo_text.specs.Side.{letter_of}
use Rattle.amo_text.proofs.Cuts.{IsField-decimal}
use Rattle.amo_text.proofs.HexDigits.{texts_differ}

-- letters have no space and no line end among them
pub letters : (field : List ℕ) → list_all (λ c. ltb 32 c) field ≡ true → IsField field
letters [] above = (tt, tt)
letters (c ∷ field) above =
    let parts = and_parts (ltb 32 c) (list_all (λ c. ltb 32 c) field) above in
    let here : 32 < c = ltb-true 32 c parts.0 in
    let rest = letters field parts.1 in
    ((λ e. omega arith, rest.0), (λ e. omega arith, rest.1))

pub IsField-letter_of : (side : End) → IsField (letter_of side)
IsField-letter_of Sender = letters (codes "s") refl
IsField-letter_of Receiver = letters (codes "r") refl

-- two sides have two letters
pub letter_of-injective : (a b : End) → letter_of a ≡ letter_of b → a ≡ b
letter_of-injective Sender Sender e = refl
letter_of-injective Sender Receiver e = absurd (texts_differ (codes "s") (codes "r") refl e)
letter_of-injective Receiver Sender e = absurd (texts_differ (codes "r") (codes "s") refl e)
letter_of-injective Receiver Receiver e = refl

pub IsField-stream : (stream : ℕ) → IsStream stream → IsField (decimal stream)
IsField-stream stream known = IsField-decimal stream (omega arith)

-- two streams have two decimals
pub stream-injective : (s t : ℕ) → IsStream s → IsStream t → decimal s ≡ decimal t → s ≡ t
stream-injective s t p q e = decimal_injective s t (omega arith) (omega arith) e
