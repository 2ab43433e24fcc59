-- Marks of puts in a row are raised.
use Rattle.std.proofs.Common.{◌≡◌, ℕ, zero, suc, ◌+◌, ◌<◌, ◌≤◌, Some, List, [], ◌∷◌, length, set, slice_get, eqb, true, false, refl, sym, ◌∙◌, ap, subst, inl, inr, ◌⊎◌, arith}
use Rattle.std.proofs.lemmas.Bool.Decides.{eqb_tells}
use Rattle.std.proofs.lemmas.List.{length-set}
use Rattle.amo_outcomes.specs.declared.marks.Mark.{Mark}
use Rattle.amo_outcomes.specs.declared.marks.Run.{Run}
use Rattle.amo_outcomes.specs.Marks.{raised, IsIn, AreRaised}
use Rattle.amo_world.proofs.Lists.{some_injective}

module _ {X : Type 0} where
  pub set_here : (xs : List X) (k : ℕ) (old new : X) → slice_get xs k ≡ Some old → slice_get (set xs k new) k ≡ Some new
  set_here [] k old new is = absurd (nothing is)
    where
      nothing : slice_get [] k ≡ Some old → ⊥
      nothing e = cc
  set_here (x ∷ xs) zero old new is = refl
  set_here (x ∷ xs) (suc k) old new is = set_here xs k old new is

  pub set_there : (xs : List X) (i k : ℕ) (new : X) → (i ≡ k → ⊥) → slice_get (set xs i new) k ≡ slice_get xs k
  set_there [] i k new apart = refl
  set_there (x ∷ xs) zero zero new apart = absurd (apart refl)
  set_there (x ∷ xs) zero (suc k) new apart = refl
  set_there (x ∷ xs) (suc i) zero new apart = refl
  set_there (x ∷ xs) (suc i) (suc k) new apart = set_there xs i k new (λ same. apart (ap suc same))

  pub stands_within : (xs : List X) (k : ℕ) (x : X) → slice_get xs k ≡ Some x → k < length xs
  stands_within [] k x is = absurd (nothing is)
    where
      nothing : slice_get [] k ≡ Some x → ⊥
      nothing e = cc
  stands_within (y ∷ ys) zero x is = omega arith
  stands_within (y ∷ ys) (suc k) x is = omega (arith, stands_within ys k x is)

  pub stands : (xs : List X) (k : ℕ) → k < length xs → (x : X) × (slice_get xs k ≡ Some x)
  stands [] k less = absurd (omega (arith, less))
  stands (y ∷ ys) zero less = (y, refl)
  stands (y ∷ ys) (suc k) less = stands ys k (omega (arith, less))

pub nothing_raised : (mark : Mark) (first : ℕ) (marks : List Mark) → AreRaised mark (record { first = first; end = first }) marks marks
nothing_raised mark first marks = record {
  count = refl;
  inside = λ put m is there. absurd (omega (arith, is.0, is.1));
  outside = λ put is. refl;
}

-- one mark more
pub one_more_raised : (mark : Mark) (first put : ℕ) (old now : List Mark) (m : Mark) → first ≤ put → slice_get now put ≡ Some m
    → AreRaised mark (record { first = first; end = put }) old now
    → AreRaised mark (record { first = first; end = put + 1 }) old (set now put (raised mark m))
one_more_raised mark first put old now m low there r = record {
  count = length-set now put (raised mark m) ∙ r.count;
  inside = λ k other is stands. inside k other is stands (eqb_tells put k);
  outside = λ k not_in. set_there now put k (raised mark m) (λ same. not_in (omega (arith, same, low), omega (arith, same)))
      ∙ r.outside k (λ is. not_in (is.0, omega (arith, is.1)));
}
  where
    before : slice_get old put ≡ Some m
    before = sym (r.outside put (λ is. omega (arith, is.1))) ∙ there

    inside : (k : ℕ) (other : Mark) → IsIn (record { first = first; end = put + 1 }) k → slice_get old k ≡ Some other
        → ((eqb put k ≡ true) × (put ≡ k)) ⊎ ((eqb put k ≡ false) × (put ≡ k → ⊥))
        → slice_get (set now put (raised mark m)) k ≡ Some (raised mark other)
    inside k other is stands (inl e) =
        subst (λ (x : ℕ). slice_get (set now put (raised mark m)) x ≡ Some (raised mark other)) e.1
        (set_here now put m (raised mark m) there
        ∙ ap (λ (x : Mark). Some (raised mark x)) (some_injective m other (sym before ∙ subst (λ (x : ℕ). slice_get old x ≡ Some other)
        (sym e.1) stands)))
    inside k other is stands (inr e) =
        set_there now put k (raised mark m) e.1 ∙ r.inside k other (is.0, omega (arith, is.1, e.1)) stands

-- marks that stand are raised as far as a run goes
pub all_raised : (mark : Mark) (run : Run) (end : ℕ) (old now : List Mark) → ((put : ℕ) → IsIn run put → put < length old → put < end)
    → ((put : ℕ) → run.first ≤ put → put < end → put < run.end)
    → AreRaised mark (record { first = run.first; end = end }) old now → AreRaised mark run old now
all_raised mark run end old now far near r = record {
  count = r.count;
  inside = λ put m is there. r.inside put m (is.0, far put is (stands_within old put m there)) there;
  outside = λ put not_in. r.outside put (λ is. not_in (is.0, near put is.0 is.1));
}
