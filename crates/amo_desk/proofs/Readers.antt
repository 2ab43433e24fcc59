-- A journal that a reader brings in pieces.
use Rattle.std.proofs.Common.{◌≡◌, ◌==◌, ℕ, true, Option, Some, None, List, [], ◌++◌, length, refl, sym, ap, subst, ◌∙◌, append_assoc, append-nil}
use Rattle.std.proofs.lemmas.Bool.{eqb-true}
use Rattle.std.proofs.lemmas.List.{nil_from_length}
use Rattle.std.specs.Io.KnownBytes.{Consumes}

-- nothing was read
pub none_taken : (a : Option (List ℕ)) → Consumes a a []
none_taken None = tt
none_taken (Some u) = refl

-- more was read
pub more_taken : (a b c : Option (List ℕ)) (xs ys : List ℕ) → Consumes a b xs → Consumes b c ys → Consumes a c (xs ++ ys)
more_taken None b c xs ys first second = tt
more_taken (Some u) None c xs ys first second = absurd first
more_taken (Some u) (Some v) None xs ys first second = absurd second
more_taken (Some u) (Some v) (Some w) xs ys first second = first ∙ (ap (λ (l : List ℕ). xs ++ l) second ∙ sym (append_assoc xs ys w))

-- all that was read was handed on: of it nothing is left
pub all_handed : (a b : Option (List ℕ)) (bytes handed rest : List ℕ) → Consumes a b bytes → bytes ≡ handed ++ rest → (length rest == 0) ≡ true → Consumes a b handed
all_handed a b bytes handed rest read parts none =
    subst (λ (l : List ℕ). Consumes a b l) (parts ∙ (ap (λ (l : List ℕ). handed ++ l) (nil_from_length rest (eqb-true (length rest) 0 none)) ∙ append-nil handed)) read
