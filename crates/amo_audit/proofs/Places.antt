-- Sides that have events in two lists.
use Rattle.std.proofs.Common.{◌≡◌, ℕ, zero, suc, ◌+◌, ◌<◌, Bool, eqb, true, false, List, [], ◌∷◌, ◌++◌, length, take, set, get_or, get_or-set_same, get_or-set_other, refl, sym, ◌∙◌, ap, subst, inl, inr, ◌⊎◌, arith}
use Rattle.std.specs.Prelude.{IsTrue}
use Rattle.std.specs.List.{Contains}
use Rattle.std.proofs.lemmas.Bool.Decides.{eqb_tells}
use Rattle.std.proofs.lemmas.List.{take_more}
use Rattle.std.proofs.lemmas.List.Elements.{Contains-push, Contains-append_left, Contains-append_cases}
use Rattle.amo_object.specs.declared.step.End.{End}
use Rattle.amo_object.specs.declared.step.End.TheVariants.{Sender, Receiver}
use Rattle.amo_world.specs.declared.event.Event.{Event}
use Rattle.amo_world.specs.Stream.{IsStream}
use Rattle.amo_audit.specs.Marks.{place_of, end_number}
use Rattle.amo_audit.specs.Marks.{Marks}

-- a place is of one side of one stream
same_number : (a b : End) → end_number a ≡ end_number b → a ≡ b
same_number Sender Sender e = refl
same_number Sender Receiver e = absurd (omega arith)
same_number Receiver Sender e = absurd (omega arith)
same_number Receiver Receiver e = refl

below_two : (a : End) → end_number a < 2
below_two Sender = omega arith
below_two Receiver = omega arith

pub place_below : (e : Event) → IsStream e.stream → place_of e < 512
place_below e known = let low = below_two e.side in omega (arith, low, known.0, known.1)

pub same_side : (x y : Event) → IsStream x.stream → IsStream y.stream → place_of x ≡ place_of y → (x.stream ≡ y.stream) × (x.side ≡ y.side)
same_side x y p q same =
    let low = below_two x.side in
    let high = below_two y.side in
    let streams : x.stream ≡ y.stream = omega (arith, low, high, p.0, q.0, same) in
    let ends : end_number x.side ≡ end_number y.side = omega (arith, low, high, p.0, q.0, same) in
    (streams, same_number x.side y.side ends)

pub same_place : (x y : Event) → x.stream ≡ y.stream → x.side ≡ y.side → place_of x ≡ place_of y
same_place x y p q = rw (p, q) refl

-- one side more is marked
marked_more : (has : List Bool) (p q : ℕ) → p < length has → (p ≡ q) ⊎ IsTrue (get_or has q false) → IsTrue (get_or (set has p true) q false)
marked_more has p q small (inl same) = subst (λ k. get_or (set has p true) k false ≡ true) same (get_or-set_same has p true false small)
marked_more has p q small (inr was) = by_place (eqb_tells p q)
  where
    by_place : ((eqb p q ≡ true) × (p ≡ q)) ⊎ ((eqb p q ≡ false) × (p ≡ q → ⊥)) → get_or (set has p true) q false ≡ true
    by_place (inl (t, same)) = subst (λ k. get_or (set has p true) k false ≡ true) same (get_or-set_same has p true false small)
    by_place (inr (f, apart)) = get_or-set_other has p q true false (λ e. apart (sym e)) ∙ was

marked_was : (has : List Bool) (p q : ℕ) → IsTrue (get_or (set has p true) q false) → (p ≡ q) ⊎ IsTrue (get_or has q false)
marked_was has p q now = by_place (eqb_tells p q)
  where
    by_place : ((eqb p q ≡ true) × (p ≡ q)) ⊎ ((eqb p q ≡ false) × (p ≡ q → ⊥)) → (p ≡ q) ⊎ IsTrue (get_or has q false)
    by_place (inl (t, same)) = inl same
    by_place (inr (f, apart)) = inr (sym (get_or-set_other has p q true false (λ e. apart (sym e))) ∙ now)

pub marks_more : (has : List Bool) (events : List Event) (e : Event) (p : ℕ) → p < length has → p ≡ place_of e → Marks has events → Marks (set has p true) (events ++ e ∷ [])
marks_more has events e p small at marks q = ((λ now. from (marked_was has p q now)), λ (x, c, is). marked_more has p q small (back x is (Contains-append_cases events (e ∷ []) x c)))
  where
    from : (p ≡ q) ⊎ IsTrue (get_or has q false) → (x : Event) × Contains (events ++ e ∷ []) x × (place_of x ≡ q)
    from (inl same) = (e, Contains-push events e, sym at ∙ same)
    from (inr was) = let found = (marks q).0 was in (found.0, Contains-append_left events (e ∷ []) found.0 found.1, found.2)

    back : (x : Event) → place_of x ≡ q → Contains events x ⊎ Contains (e ∷ []) x → (p ≡ q) ⊎ IsTrue (get_or has q false)
    back x is (inl c) = inr ((marks q).1 (x, c, is))
    back x is (inr c) = inl (at ∙ ap place_of (only c) ∙ is)
      where
        only : Contains (e ∷ []) x → e ≡ x
        only (zero, short, same) = same
        only (suc k, short, same) = absurd (omega arith)

-- all events before one, and that one
pub one_more : (events : List Event) (i : ℕ) (e : Event) → i < length events → e ≡ get_or events i e → take i events ++ e ∷ [] ≡ take (i + 1) events
one_more events i e inside is = ap (λ (y : Event). take i events ++ y ∷ []) is ∙ sym (take_more events i e inside)
