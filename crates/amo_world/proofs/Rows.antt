-- What stands in rows after one of them has changed, and in twice as many.
use Rattle.std.proofs.Common.{◌≡◌, ℕ, zero, suc, ◌*◌, ◌%◌, ◌<◌, ◌==◌, Bool, true, false, cond, Option, None, Some, List, [], ◌∷◌, ◌++◌, length, slice_get, set, refl, sym, ◌∙◌, ap, subst, inl, inr, ◌⊎◌, arith}
use Rattle.std.specs.Int.{◌∣◌}
use Rattle.std.specs.Option.{unwrap_or}
use Rattle.std.specs.BTreeMap.{is_at}
use Rattle.std.proofs.lemmas.Bool.{eq-eqb}
use Rattle.std.proofs.lemmas.List.{length-set, length-append}
use Rattle.std.proofs.Math.Nat.{mod-lt, mod-mod_of_dvd, dvd-mul_right}
use Rattle.amo_world.specs.declared.key.Key.{Key}
use Rattle.amo_world.specs.declared.row.Found.{Found}
use Rattle.amo_world.specs.declared.row.Row.{Row}
use Rattle.amo_world.specs.Key.{order, with_place}
use Rattle.amo_world.specs.Row.{first_place, row_of, found_in, has_spilled, either_place, place_in, shared, IsShare, IsSpread}
use Rattle.amo_world.proofs.KeyTies.{same_key, key_at_itself}
use Rattle.amo_world.proofs.Lists.{some_injective, slice_get-longer, slice_get-end}

-- the first of two places, where it is none
first_none : (o p : Option ℕ) → either_place o p ≡ None → o ≡ None
first_none None p e = refl
first_none (Some place) p e = e

-- one more stands at the end of a row
first_place-push : (fs : List Found) (f : Found) (k : Key) → first_place (fs ++ f ∷ []) k ≡ either_place (first_place fs k) (cond (is_at (order f.key) k) (Some f.place) None)
first_place-push [] f k = refl
first_place-push (g ∷ fs) f k = by_test (is_at (order g.key) k) (first_place-push fs f k)
  where
    by_test : (b : Bool) → first_place (fs ++ f ∷ []) k ≡ either_place (first_place fs k) (cond (is_at (order f.key) k) (Some f.place) None)
        → cond b (Some g.place) (first_place (fs ++ f ∷ []) k) ≡ either_place (cond b (Some g.place) (first_place fs k)) (cond (is_at (order f.key) k) (Some f.place) None)
    by_test true others = refl
    by_test false others = others

either_none : (o : Option ℕ) → either_place o None ≡ o
either_none None = refl
either_none (Some place) = refl

-- one element exchanged
at_set : {X : Type 0} (xs : List X) (i : ℕ) (x y : X) → slice_get xs i ≡ Some x → slice_get (set xs i y) i ≡ Some y
at_set [] i x y is = cc
at_set (z ∷ xs) zero x y is = refl
at_set (z ∷ xs) (suc i) x y is = at_set xs i x y is

not_at_set : {X : Type 0} (xs : List X) (i j : ℕ) (y : X) → (j ≡ i → ⊥) → slice_get (set xs i y) j ≡ slice_get xs j
not_at_set [] i j y apart = refl
not_at_set (z ∷ xs) zero zero y apart = absurd (apart refl)
not_at_set (z ∷ xs) zero (suc j) y apart = refl
not_at_set (z ∷ xs) (suc i) zero y apart = refl
not_at_set (z ∷ xs) (suc i) (suc j) y apart = not_at_set xs i j y (λ e. apart (ap (λ n. suc n) e))

same_or_not : (i j : ℕ) → (i ≡ j) ⊎ (i ≡ j → ⊥)
same_or_not zero zero = inl refl
same_or_not zero (suc j) = inr (λ e. omega (arith, e))
same_or_not (suc i) zero = inr (λ e. omega (arith, e))
same_or_not (suc i) (suc j) = one_on (same_or_not i j)
  where
    one_on : (i ≡ j) ⊎ (i ≡ j → ⊥) → (suc i ≡ suc j) ⊎ (suc i ≡ suc j → ⊥)
    one_on (inl e) = inl (ap (λ n. suc n) e)
    one_on (inr apart) = inr (λ e. apart (omega (arith, e)))

module _ (rows : List Row) (n : ℕ) (was now : Row) (there : slice_get rows n ≡ Some was) where
  -- the row of an identifier, where row n has changed
  row_here : (identifier : ℕ) → identifier % length rows ≡ n → row_of (set rows n now) identifier ≡ Some now
  row_here identifier e = ap (λ (m : ℕ). slice_get (set rows n now) (identifier % m)) (length-set rows n now) ∙ ap (slice_get (set rows n now)) e ∙ at_set rows n was now there

  row_was : (identifier : ℕ) → identifier % length rows ≡ n → row_of rows identifier ≡ Some was
  row_was identifier e = ap (slice_get rows) e ∙ there

  row_elsewhere : (identifier : ℕ) → (identifier % length rows ≡ n → ⊥) → row_of (set rows n now) identifier ≡ row_of rows identifier
  row_elsewhere identifier apart = ap (λ (m : ℕ). slice_get (set rows n now) (identifier % m)) (length-set rows n now) ∙ not_at_set rows n (identifier % length rows) now apart

  module _ (spilled : Key → Option ℕ) (f : Found) (number : f.key.identifier % length rows ≡ n) (absent : place_in rows spilled f.key ≡ None) where
    none_here : first_place was.found.items f.key ≡ None
    none_here = ap (λ (r : Option Row). first_place (found_in r) f.key) (sym (row_was f.key.identifier number))
        ∙ first_none (first_place (found_in (row_of rows f.key.identifier)) f.key) (spilled f.key) absent

    -- what is under the new key
    under : with_place (place_in rows spilled) f.key f.place f.key ≡ Some f.place
    under = ap (λ (b : Bool). cond b (Some (unwrap_or (place_in rows spilled f.key) f.place)) (place_in rows spilled f.key)) (key_at_itself f.key)
        ∙ ap (λ (o : Option ℕ). Some (unwrap_or o f.place)) absent

    -- what is under another key
    not_under : (k : Key) → is_at (order f.key) k ≡ false → with_place (place_in rows spilled) f.key f.place k ≡ place_in rows spilled k
    not_under k is = ap (λ (b : Bool). cond b (Some (unwrap_or (place_in rows spilled f.key) f.place)) (place_in rows spilled k)) is

    -- the row takes it
    pub put_in_row : now.found.items ≡ was.found.items ++ f ∷ [] → (k : Key) → place_in (set rows n now) spilled k ≡ with_place (place_in rows spilled) f.key f.place k
    put_in_row longer k = by_test (is_at (order f.key) k) refl
      where
        in_row : (q : Key) → first_place now.found.items q ≡ either_place (first_place was.found.items q) (cond (is_at (order f.key) q) (Some f.place) None)
        in_row q = ap (λ (fs : List Found). first_place fs q) longer ∙ first_place-push was.found.items f q

        here : place_in (set rows n now) spilled f.key ≡ Some f.place
        here = ap (λ (r : Option Row). either_place (first_place (found_in r) f.key) (spilled f.key)) (row_here f.key.identifier number)
            ∙ ap (λ (o : Option ℕ). either_place o (spilled f.key)) (in_row f.key
            ∙ ap (λ (o : Option ℕ). either_place o (cond (is_at (order f.key) f.key) (Some f.place) None)) none_here
            ∙ ap (λ (b : Bool). cond b (Some f.place) None) (key_at_itself f.key))

        by_row : is_at (order f.key) k ≡ false → (k.identifier % length rows ≡ n) ⊎ (k.identifier % length rows ≡ n → ⊥) → place_in (set rows n now) spilled k ≡ place_in rows spilled k
        by_row is (inl e) =
            ap (λ (r : Option Row). either_place (first_place (found_in r) k) (spilled k)) (row_here k.identifier e)
            ∙ ap (λ (o : Option ℕ). either_place o (spilled k)) (in_row k ∙ ap (λ (b : Bool). either_place (first_place was.found.items k) (cond b (Some f.place) None)) is ∙ either_none (first_place was.found.items k))
            ∙ ap (λ (r : Option Row). either_place (first_place (found_in r) k) (spilled k)) (sym (row_was k.identifier e))
        by_row is (inr apart) = ap (λ (r : Option Row). either_place (first_place (found_in r) k) (spilled k)) (row_elsewhere k.identifier apart)

        by_test : (b : Bool) → is_at (order f.key) k ≡ b → place_in (set rows n now) spilled k ≡ with_place (place_in rows spilled) f.key f.place k
        by_test true is = subst (λ (q : Key). place_in (set rows n now) spilled q ≡ with_place (place_in rows spilled) f.key f.place q) (same_key f.key k is) (here ∙ sym under)
        by_test false is = by_row is (same_or_not (k.identifier % length rows) n) ∙ sym (not_under k is)

    -- the tree takes it
    pub put_in_tree : now.found.items ≡ was.found.items → (longer : Key → Option ℕ) → ((k : Key) → longer k ≡ cond (is_at (order f.key) k) (Some f.place) (spilled k))
        → (k : Key) → place_in (set rows n now) longer k ≡ with_place (place_in rows spilled) f.key f.place k
    put_in_tree same longer put k = by_test (is_at (order f.key) k) refl
      where
        row_same : (q : Key) → (q.identifier % length rows ≡ n) ⊎ (q.identifier % length rows ≡ n → ⊥)
            → first_place (found_in (row_of (set rows n now) q.identifier)) q ≡ first_place (found_in (row_of rows q.identifier)) q
        row_same q (inl e) = ap (λ (r : Option Row). first_place (found_in r) q) (row_here q.identifier e) ∙ ap (λ (fs : List Found). first_place fs q) same
            ∙ ap (λ (r : Option Row). first_place (found_in r) q) (sym (row_was q.identifier e))
        row_same q (inr apart) = ap (λ (r : Option Row). first_place (found_in r) q) (row_elsewhere q.identifier apart)

        moved : (q : Key) → place_in (set rows n now) longer q ≡ either_place (first_place (found_in (row_of rows q.identifier)) q) (cond (is_at (order f.key) q) (Some f.place) (spilled q))
        moved q = ap (λ (o : Option ℕ). either_place o (longer q)) (row_same q (same_or_not (q.identifier % length rows) n))
            ∙ ap (either_place (first_place (found_in (row_of rows q.identifier)) q)) (put q)

        here : place_in (set rows n now) longer f.key ≡ Some f.place
        here = moved f.key ∙ ap (λ (b : Bool). either_place (first_place (found_in (row_of rows f.key.identifier)) f.key) (cond b (Some f.place) (spilled f.key))) (key_at_itself f.key)
            ∙ ap (λ (o : Option ℕ). either_place o (Some f.place)) (ap (λ (r : Option Row). first_place (found_in r) f.key) (row_was f.key.identifier number) ∙ none_here)

        by_test : (b : Bool) → is_at (order f.key) k ≡ b → place_in (set rows n now) longer k ≡ with_place (place_in rows spilled) f.key f.place k
        by_test true is = subst (λ (q : Key). place_in (set rows n now) longer q ≡ with_place (place_in rows spilled) f.key f.place q) (same_key f.key k is) (here ∙ sym under)
        by_test false is = moved k ∙ ap (λ (b : Bool). either_place (first_place (found_in (row_of rows k.identifier)) k) (cond b (Some f.place) (spilled k))) is ∙ sym (not_under k is)

-- what a row shares out has the same place in the row that it goes to
first_place-shared : (fs : List Found) (k : Key) (rows : ℕ) → first_place (shared (k.identifier % rows) rows fs) k ≡ first_place fs k
first_place-shared [] k rows = refl
first_place-shared (f ∷ fs) k rows = by_test (is_at (order f.key) k) refl (f.key.identifier % rows == k.identifier % rows) refl (first_place-shared fs k rows)
  where
    goes_along : (c : Bool) → (f.key.identifier % rows == k.identifier % rows) ≡ c → is_at (order f.key) k ≡ true → c ≡ true
    goes_along c goes is = sym goes ∙ eq-eqb (f.key.identifier % rows) (k.identifier % rows) (ap (λ (q : Key). q.identifier % rows) (same_key f.key k is))

    stays : (c : Bool) → c ≡ true → is_at (order f.key) k ≡ true → first_place (cond c (f ∷ shared (k.identifier % rows) rows fs) (shared (k.identifier % rows) rows fs)) k ≡ Some f.place
    stays true goes is = ap (λ (b : Bool). cond b (Some f.place) (first_place (shared (k.identifier % rows) rows fs) k)) is
    stays false goes is = absurd (no goes)
      where
        no : false ≡ true → ⊥
        no e = cc

    others : (c : Bool) → is_at (order f.key) k ≡ false → first_place (shared (k.identifier % rows) rows fs) k ≡ first_place fs k
        → first_place (cond c (f ∷ shared (k.identifier % rows) rows fs) (shared (k.identifier % rows) rows fs)) k ≡ first_place fs k
    others true is same = ap (λ (b : Bool). cond b (Some f.place) (first_place (shared (k.identifier % rows) rows fs) k)) is ∙ same
    others false is same = same

    by_test : (b : Bool) → is_at (order f.key) k ≡ b → (c : Bool) → (f.key.identifier % rows == k.identifier % rows) ≡ c → first_place (shared (k.identifier % rows) rows fs) k ≡ first_place fs k
        → first_place (cond (f.key.identifier % rows == k.identifier % rows) (f ∷ shared (k.identifier % rows) rows fs) (shared (k.identifier % rows) rows fs)) k
        ≡ cond (is_at (order f.key) k) (Some f.place) (first_place fs k)
    by_test true is c goes same =
        stays (f.key.identifier % rows == k.identifier % rows) (goes ∙ goes_along c goes is) is ∙ sym (ap (λ (d : Bool). cond d (Some f.place) (first_place fs k)) is)
    by_test false is c goes same = others (f.key.identifier % rows == k.identifier % rows) is same ∙ sym (ap (λ (d : Bool). cond d (Some f.place) (first_place fs k)) is)

there_is : {X : Type 0} (xs : List X) (i : ℕ) → i < length xs → (x : X) × (slice_get xs i ≡ Some x)
there_is [] i short = absurd (omega (arith, short))
there_is (x ∷ xs) zero short = (x, refl)
there_is (x ∷ xs) (suc i) short = there_is xs i (omega (arith, short))

-- each of twice as many rows has its share
abbrev pub HasShares : List Row → ℕ → List Row → Type 0
HasShares rows count spread =
    (number : ℕ) (row : Row) → slice_get rows (number % length rows) ≡ Some row → number < length spread
    → (share : Row) × (slice_get spread number ≡ Some share) × IsShare row number count share

pub share_pushed : (rows spread : List Row) (count : ℕ) (row share : Row) → HasShares rows count spread
    → slice_get rows (length spread % length rows) ≡ Some row → IsShare row (length spread) count share → HasShares rows count (spread ++ share ∷ [])
share_pushed rows spread count row share shares at is number other there short = by_number (same_or_not number (length spread))
  where
    by_number : (number ≡ length spread) ⊎ (number ≡ length spread → ⊥) → (x : Row) × (slice_get (spread ++ share ∷ []) number ≡ Some x) × IsShare other number count x
    by_number (inl e) = (
      share,
      ap (slice_get (spread ++ share ∷ [])) e ∙ slice_get-end spread share,
      subst (λ (r : Row). IsShare r number count share) (some_injective row other (sym at ∙ ap (λ (n : ℕ). slice_get rows (n % length rows)) (sym e) ∙ there))
          (subst (λ (n : ℕ). IsShare row n count share) (sym e) is),
    )
    by_number (inr apart) =
        let (x, is_at_number, is_share) = shares number other there (omega (arith, short, apart, length-append spread (share ∷ []))) in
        (x, slice_get-longer spread (share ∷ []) number x is_at_number, is_share)

pub spread_whole : (rows spread : List Row) (count : ℕ) → 0 < length rows → count ≡ length rows * 2 → length spread ≡ count → HasShares rows count spread → IsSpread rows spread
spread_whole rows spread count some twice full shares = record {
  some = omega (arith, some, twice, full);
  places = λ key.
      let (row, row_is, share, share_is, is) = both key.identifier in
      ap (λ (r : Option Row). first_place (found_in r) key) share_is
      ∙ ap (λ (fs : List Found). first_place fs key) is.0
      ∙ first_place-shared row.found.items key count
      ∙ ap (λ (r : Option Row). first_place (found_in r) key) (sym row_is);
  spilled = λ key.
      let (row, row_is, share, share_is, is) = both key.identifier in
      ap (λ (r : Option Row). has_spilled r) share_is ∙ is.1 ∙ ap (λ (r : Option Row). has_spilled r) (sym row_is);
}
  where
    -- an identifier's number among the former rows
    former : (identifier : ℕ) → identifier % count % length rows ≡ identifier % length rows
    former identifier = mod-mod_of_dvd (length rows) identifier (subst (λ (n : ℕ). length rows ∣ n) (sym twice) (dvd-mul_right (length rows) 2))

    both : (identifier : ℕ) → (row : Row) × (row_of rows identifier ≡ Some row) × (share : Row) × (row_of spread identifier ≡ Some share) × IsShare row (identifier % count) count share
    both identifier =
        let (row, row_is) = there_is rows (identifier % length rows) (mod-lt identifier some) in
        let (share, share_is, is) = shares (identifier % count) row (ap (slice_get rows) (former identifier) ∙ row_is)
        (subst (λ (n : ℕ). identifier % count < n) (sym full) (mod-lt identifier (omega (arith, some, twice)))) in
        (row, row_is, share, ap (λ (n : ℕ). slice_get spread (identifier % n)) full ∙ share_is, is)
