-- Events in the order of time, and the history that they are.
use Rattle.std.proofs.Common.{◌≡◌, ℕ, ◌+◌, Some, List, [], ◌∷◌, ◌++◌, ◌∙◌, ap, reverse, take, slice_get}
use Rattle.std.proofs.lemmas.List.{reverse-append, take_more}
use Rattle.std.proofs.lemmas.Option.{slice_get_within, get_or_from_slice_get}

module _ {X : Type 0} where
  -- one more at the end is one more in front
  pub reverse_push : (xs : List X) (x : X) → reverse (xs ++ x ∷ []) ≡ x ∷ reverse xs
  reverse_push xs x = reverse-append xs (x ∷ [])

  -- the first elements, and the one after them
  pub reverse_take : (xs : List X) (x : X) (place : ℕ) → slice_get xs place ≡ Some x → reverse (take (place + 1) xs) ≡ x ∷ reverse (take place xs)
  reverse_take xs x place is =
      let more : take (place + 1) xs ≡ take place xs ++ x ∷ [] = take_more xs place x (slice_get_within xs place x is) ∙ ap (λ (y : X). take place xs ++ y ∷ []) (get_or_from_slice_get xs place x x is) in
      ap reverse more ∙ reverse_push (take place xs) x
