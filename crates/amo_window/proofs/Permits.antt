-- What a slab's keys are as a finite map, and what a change of one key is there.
use Rattle.std.proofs.Common.{◌≡◌, ℕ, zero, suc, ◌+◌, ◌<◌, cond, List, [], ◌∷◌, get_or, Option, Some, None, is_some, count_by, sym, ap, subst, ◌∙◌, inl, inr, zero-add, add-zero, arith}
use Rattle.std.proofs.lemmas.Bool.{cases_eq}
use Rattle.std.proofs.lemmas.List.Sums.{sum_by-cons}
use Rattle.std.specs.Ordering.{nat_cmp}
use Rattle.std.specs.Cmp.{nat_cmp_total}
use Rattle.std.specs.FinMap.{FinMap, get, insert, remove, len, from_entries, get-empty, len-empty, len-insert, same_map, nat_cmp-IsAntisymmetric}
use Rattle.slab.specs.Slab as slab
use Rattle.amo_window.specs.Window.{Entry, Permits, StayOut, opened, closed, by_key}
use Rattle.amo_window.proofs.WindowLemmas.{get-insert_same, get-insert_other, get-remove_same, get-remove_other, StayOut-opened}

-- the map of the slots from this key on
abbrev from_slots : ℕ → List (Option ℕ) → FinMap nat_cmp ℕ
from_slots first slots = from_entries (slab.entries_from first slots)

-- nothing stands under a key below the first
get_below : (first : ℕ) (slots : List (Option ℕ)) (q : ℕ) → q < first → get (from_slots first slots) q ≡ None
get_below first [] q below = get-empty nat_cmp q
get_below first (None ∷ rest) q below = get_below (first + 1) rest q (omega arith)
get_below first (Some v ∷ rest) q below = get-insert_other _ first v q (λ same. omega arith) ∙ get_below (first + 1) rest q (omega arith)

-- the slot at a place stands under the key that is as far from the first
get_at : (first : ℕ) (slots : List (Option ℕ)) (at : ℕ) → get (from_slots first slots) (first + at) ≡ get_or slots at None
get_at first [] at = get-empty nat_cmp _
get_at first (None ∷ rest) zero = get_below (first + 1) rest _ (omega arith)
get_at first (Some v ∷ rest) zero = get-insert_same (from_slots (first + 1) rest) first v (first + 0) (add-zero first)
get_at first (None ∷ rest) (suc at) =
    let shift : first + suc at ≡ first + 1 + at = omega arith in
    rw shift (get_at (first + 1) rest at)
get_at first (Some v ∷ rest) (suc at) =
    let shift : first + suc at ≡ first + 1 + at = omega arith in
    get-insert_other _ first v _ (λ same. omega arith) ∙ rw shift (get_at (first + 1) rest at)

-- there is one key for each slot with a value
len_from : (first : ℕ) (slots : List (Option ℕ)) → len (from_slots first slots) ≡ count_by is_some slots
len_from first [] = len-empty nat_cmp ℕ
len_from first (None ∷ rest) = omega (arith, len_from (first + 1) rest, sum_by-cons (λ o. cond (is_some o) 1 0) None rest)
len_from first (Some v ∷ rest) =
    let size = len-insert nat_cmp_total (from_slots (first + 1) rest) first v in
    let absent = get_below (first + 1) rest first (omega arith) in
    let grown : len (from_slots first (Some v ∷ rest)) ≡ len (from_slots (first + 1) rest) + 1 = size ∙ ap (λ o. cond (is_some o) (len (from_slots (first + 1) rest)) (len (from_slots (first + 1) rest) + 1)) absent in
    omega (arith, grown, len_from (first + 1) rest, sum_by-cons (λ o. cond (is_some o) 1 0) (Some v) rest)

-- the map answers as the slab does
pub get_of : (s : slab.Slab ℕ) (key : ℕ) → get (by_key s) key ≡ slab.get s key
get_of s key = rw zero-add at (get_at 0 s.slots key)

-- and is as large
pub len_of : (s : slab.Slab ℕ) → len (by_key s) ≡ slab.slab_len s
len_of s = len_from 0 s.slots

-- a value that comes under a key of the slab comes under that key of the map
pub inserted : (old new : slab.Slab ℕ) (key v : ℕ) → slab.Updates old new key (Some v) → by_key new ≡ insert (by_key old) key v
inserted old new key v updates = same_map nat_cmp_total nat_cmp-IsAntisymmetric _ _ (λ q.
    get_of new q ∙ elim (cases_eq q key) [
      | inl same ↦ ap (slab.get new) same ∙ updates.changed ∙ sym (get-insert_same (by_key old) key v q same)
      | inr differs ↦ updates.others q differs ∙ sym (get-insert_other (by_key old) key v q differs ∙ get_of old q)
    ])

-- and one that leaves a key of the slab leaves that key of the map
pub removed : (old new : slab.Slab ℕ) (key : ℕ) → slab.Updates old new key None → by_key new ≡ remove (by_key old) key
removed old new key updates = same_map nat_cmp_total nat_cmp-IsAntisymmetric _ _ (λ q.
    get_of new q ∙ elim (cases_eq q key) [
      | inl same ↦ ap (slab.get new) same ∙ updates.changed ∙ sym (get-remove_same (by_key old) key q same)
      | inr differs ↦ updates.others q differs ∙ sym (get-remove_other (by_key old) key q differs ∙ get_of old q)
    ])

-- a window with these permits
abbrev pub window_of : ℕ → slab.Slab ℕ → Permits
window_of limit s = record { limit = limit; streams = by_key s }

module _ (limit : ℕ) (old new : slab.Slab ℕ) (permit : Entry) where
  pub opened-updates : slab.Updates old new permit.key (Some permit.stream) → window_of limit new ≡ opened (window_of limit old) permit
  opened-updates updates = ap (λ streams. record { limit = limit; streams = streams }) (inserted old new permit.key permit.stream updates)

  pub StayOut-updates : slab.get old permit.key ≡ None → slab.Updates old new permit.key (Some permit.stream) → StayOut (window_of limit old) (window_of limit new) permit
  StayOut-updates vacant updates =
      subst (λ w. StayOut (window_of limit old) w permit) (sym (opened-updates updates)) (StayOut-opened (window_of limit old) permit (get_of old permit.key ∙ vacant))

  pub closed-updates : slab.Updates old new permit.key None → window_of limit new ≡ closed (window_of limit old) permit
  closed-updates updates = ap (λ streams. record { limit = limit; streams = streams }) (removed old new permit.key updates)
