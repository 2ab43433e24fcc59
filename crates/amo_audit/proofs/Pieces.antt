-- How far the texts of some items were appended.
use Rattle.std.proofs.Common.{◌≡◌, ℕ, ◌+◌, ◌≤◌, ◌<◌, List, [], ◌∷◌, ◌++◌, length, get_or, take, sym, ◌∙◌, ap, append_assoc}
use Rattle.std.specs.List.{flat_map}
use Rattle.std.proofs.lemmas.List.{append-nil, take_more, take_all}
use Rattle.std.proofs.lemmas.Grind.{flat_map-append}

module _ {A : Type 0} (text : A → List ℕ) (start : List ℕ) (items : List A) where
  -- the texts of the items before place i
  abbrev pub HasAppended : List ℕ → ℕ → Type 0
  HasAppended now i = now ≡ start ++ flat_map text (take i items)

  pub nothing_appended : HasAppended start 0
  nothing_appended = sym (append-nil start)

  one_more : (i : ℕ) (x : A) → i < length items → x ≡ get_or items i x → flat_map text (take i items) ++ text x ≡ flat_map text (take (i + 1) items)
  one_more i x within here =
      let longer = take_more items i x within ∙ ap (λ (y : A). take i items ++ y ∷ []) (sym here) in
      sym (ap (flat_map text) longer ∙ flat_map-append text (take i items) (x ∷ []) ∙ ap (λ (t : List ℕ). flat_map text (take i items) ++ t) (append-nil (text x)))

  pub more_appended : (now new : List ℕ) (i : ℕ) (x : A) → i < length items → x ≡ get_or items i x → HasAppended now i → new ≡ now ++ text x → HasAppended new (i + 1)
  more_appended now new i x within here so_far piece =
      piece ∙ ap (λ (t : List ℕ). t ++ text x) so_far ∙ append_assoc start (flat_map text (take i items)) (text x) ∙ ap (λ (t : List ℕ). start ++ t) (one_more i x within here)

  pub all_appended : (now : List ℕ) (i : ℕ) → length items ≤ i → HasAppended now i → now ≡ start ++ flat_map text items
  all_appended now i end so_far = so_far ∙ ap (λ (t : List A). start ++ flat_map text t) (take_all i items end)
