-- Texts of which as many bytes differ as were counted.
use Rattle.std.proofs.Common.{◌≡◌, ◌≢◌, ◌↔◌, ℕ, ◌<◌, true, false, List, length, get_or, eqb, sym, ◌∙◌, ap, rules, inl, inr}
use Rattle.std.specs.Prelude.{bytes_eq}
use Rattle.std.proofs.lemmas.Bool.Decides.{eqb_tells}
use Rattle.std.proofs.lemmas.Slice.Eq.{bytes_eq-Decides}
use Rattle.std.proofs.lemmas.Grind.{same_number_lists}

-- texts are one where none of their bytes differs
pub alike : (xs ys : List ℕ) (n : ℕ) → length xs ≡ length ys → (n ≡ 0 ↔ ((k : ℕ) → k < length xs → get_or xs k 0 ≡ get_or ys k 0)) → eqb n 0 ≡ bytes_eq xs ys
alike xs ys n long counted =
    elim (eqb_tells n 0) [
      | inl none ↦ none.0 ∙ sym (same xs ys (same_number_lists xs ys long (counted.0 none.1)))
      | inr some ↦ some.0 ∙ sym (other xs ys (λ (e : xs ≡ ys). some.1 (counted.1 (λ k less. ap (λ (text : List ℕ). get_or text k 0) e))))
    ]
  where
    same : (xs ys : List ℕ) → xs ≡ ys → bytes_eq xs ys ≡ true
    same xs ys e = search (rules, bytes_eq-Decides xs ys, e)

    other : (xs ys : List ℕ) → xs ≢ ys → bytes_eq xs ys ≡ false
    other xs ys e = search (rules, bytes_eq-Decides xs ys, e)
