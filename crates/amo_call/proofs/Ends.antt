-- Where numbers and words end.
use Rattle.std.proofs.Common.{◌≡◌, ℕ, ◌<◌, ◌^◌, true, false, List, [], ◌∷◌, ◌++◌, ap}
use Rattle.std.specs.Fmt.{decimal}
use Rattle.std.specs.Int.{IsInRange}
use Rattle.std.specs.List.{list_all}
use Rattle.std.proofs.lemmas.Bool.{and_parts}
use Rattle.std.proofs.lemmas.Fmt.{decimal_injective}
use Rattle.amo_text.specs.Line.{Lacks}
use Rattle.amo_text.proofs.Cuts.{one_cut, Lacks-decimal}
use Rattle.amo_door.specs.Word.{IsWord, is_word_character}

-- a number up to a byte that is no digit is one number
pub one_number : (end m n : ℕ) (x y : List ℕ) → ¬ (IsInRange 48 57 end) → m < 2 ^ 64 → n < 2 ^ 64 → decimal m ++ end ∷ x ≡ decimal n ++ end ∷ y → (m ≡ n) × (x ≡ y)
one_number end m n x y other p q e =
    let cut = one_cut end (decimal m) x (decimal n) y (Lacks-decimal end m p other) (Lacks-decimal end n q other) e in
    (decimal_injective m n p q cut.0, cut.1)

-- a word has no byte but its characters
pub Lacks-characters : (end : ℕ) (word : List ℕ) → is_word_character end ≡ false → list_all is_word_character word ≡ true → Lacks end word
Lacks-characters end [] other all = tt
Lacks-characters end (c ∷ word) other all =
    let parts = and_parts (is_word_character c) (list_all is_word_character word) all in
    (λ same. let here = ap is_word_character same in cc, Lacks-characters end word other parts.1)

-- a word up to a byte that is none of its characters is one word
pub one_word : (end : ℕ) (v w x y : List ℕ) → is_word_character end ≡ false → IsWord v → IsWord w → v ++ end ∷ x ≡ w ++ end ∷ y → (v ≡ w) × (x ≡ y)
one_word end v w x y other p q e =
    one_cut end v x w y (Lacks-characters end v other p.characters) (Lacks-characters end w other q.characters) e
