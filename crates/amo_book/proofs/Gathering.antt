-- The charges of a book come back: an index of their sides tells whether all are there.
use Rattle.std.proofs.Common.{◌≡◌, ◌≢◌, ℕ, zero, suc, ◌+◌, ◌<◌, ◌≤◌, Bool, true, false, ⊎_elim, Some, None, List, length, slice_get, get_or, set, replicate, refl, sym, ap, ◌∙◌, subst, arith, get_or-set_same, get_or-set_other}
use Rattle.std.proofs.lemmas.List.{length-set}
use Rattle.std.proofs.lemmas.Option.{slice_get_within, same_Some, none-some, some_pair_parts}
use mathlib.Core.Logic.{dite}
use native.Mathlib.Decide.{ℕ_discrete}
use Rattle.atomic_table.specs.Seated.{TableId}
use Rattle.amo_object.specs.declared.step.End.{End}
use Rattle.amo_world.specs.Stream.{IsStream}
use Rattle.amo_book.specs.declared.index.Index.{Index}
use Rattle.amo_book.specs.declared.site.Site.{Site}
use Rattle.amo_book.specs.Book.{Apart, Each}
use Rattle.amo_book.specs.Pass.{PassState}
use Rattle.amo_book.specs.Charge.{ChargeState, IsChargeOf}
use Rattle.amo_book.specs.Closed.{HasCharge, AllPasses, AllCharges}
use Rattle.amo_book.specs.Gathering.{AreAt, Covers, Marks}
use Rattle.amo_book.specs.Index.{place_of, Adds}
use Rattle.amo_book.proofs.Indexing.{same_key}
use Rattle.amo_book.proofs.Gathers.{each-at}

pub begins : (charges : List ChargeState) (index : Index) → ((side : End) (stream : ℕ) → place_of index side stream ≡ None) → Covers charges 0 index
begins charges index none = record {
  kept = λ side stream place is. absurd (none-some place (sym (none side stream) ∙ is));
  found = λ j c lt is. absurd (omega arith);
}

-- the n-th charge's side was not there yet
adds : (charges : List ChargeState) (n : ℕ) (old new : Index) (c : ChargeState) → slice_get charges n ≡ Some c
    → Adds old new c.side c.stream c.place → Covers charges n old → Covers charges (n + 1) new
adds charges n old new c at more before = record {
  kept = λ s m p is. ⊎_elim
      (λ (t : (s ≡ c.side) × (m ≡ c.stream)).
      let same : p ≡ c.place = same_Some p c.place (sym is ∙ ((λ i. place_of new (t.0 i) (t.1 i)) ∙ more.here)) in
      (n, c, at, sym same, sym t.0, sym t.1))
      (λ other. before.kept s m p (sym (more.others s m other) ∙ is))
      (same_key s c.side m c.stream);
  found = λ j d lt is. ⊎_elim
      (λ (t : (d.side ≡ c.side) × (d.stream ≡ c.stream)). (c.place, (λ i. place_of new (t.0 i) (t.1 i)) ∙ more.here))
      (λ other. dite (ℕ_discrete j n)
      (λ same. let e : d ≡ c = same_Some d c (sym is ∙ (ap (slice_get charges) same ∙ at)) in
      absurd (other (ap (λ (z : ChargeState). z.side) e) (ap (λ (z : ChargeState). z.stream) e)))
      (λ earlier. let was = before.found j d (omega arith) is in (was.0, more.others d.side d.stream other ∙ was.1)))
      (same_key d.side c.side d.stream c.stream);
}

-- the n-th charge's side was there
stays : (charges : List ChargeState) (n : ℕ) (index : Index) (c : ChargeState) → slice_get charges n ≡ Some c
    → (k : ℕ) × (place_of index c.side c.stream ≡ Some k) → Covers charges n index → Covers charges (n + 1) index
stays charges n index c at there before = record {
  kept = before.kept;
  found = λ j d lt is. dite (ℕ_discrete j n)
      (λ same. let e : c ≡ d = same_Some c d (sym at ∙ (ap (slice_get charges) (sym same) ∙ is)) in
      subst (λ (z : ChargeState). (k : ℕ) × (place_of index z.side z.stream ≡ Some k)) e there)
      (λ earlier. before.found j d (omega arith) is);
}

-- one charge more
pub grows : (charges : List ChargeState) (n : ℕ) (old new : Index) (c : ChargeState) (site : Site) (added : Bool) → slice_get charges n ≡ Some c
    → (site.place ≡ c.place) × (site.side ≡ c.side) × (site.stream ≡ c.stream) → IsStream site.stream
    → (added ≡ true → Adds old new site.side site.stream site.place)
    → (added ≡ false → IsStream site.stream → (k : ℕ) × (place_of old site.side site.stream ≡ Some k)) → (added ≡ false → new ≡ old)
    → Covers charges n old → Covers charges (n + 1) new
grows charges n old new c site true at same lawful more there still before =
    adds charges n old new c at (subst (λ (z : End × ℕ × ℕ). Adds old new z.0 z.1 z.2) (λ i. (same.1 i, same.2 i, same.0 i)) (more refl)) before
grows charges n old new c site false at same lawful more there still before =
    subst (Covers charges (n + 1)) (sym (still refl))
    (stays charges n old c at (subst (λ (z : End × ℕ). (k : ℕ) × (place_of old z.0 z.1 ≡ Some k)) (λ i. (same.1 i, same.2 i)) (there refl lawful)) before)

-- a side that is found has its charge
pub has : (sides : List (End × ℕ)) (charges : List ChargeState) (n : ℕ) (index : Index) (place : ℕ) (side : End) (stream k : ℕ) → Apart sides → AreAt sides charges
    → Covers charges n index → slice_get sides place ≡ Some (side, stream) → place_of index side stream ≡ Some k → HasCharge charges place
has sides charges n index place side stream k apart own covers at is =
    let t = covers.kept side stream k is in
    let there : slice_get sides k ≡ Some (side, stream) =
    subst (λ (z : ℕ × End × ℕ). slice_get sides z.0 ≡ Some (z.1, z.2)) (λ i. (t.3 i, t.4 i, t.5 i)) (own t.0 t.1 t.2) in
    (t.0, t.1, t.2, t.3 ∙ apart k place (side, stream) there at)

-- a side that is not found has none
pub lacks : (sides : List (End × ℕ)) (charges : List ChargeState) (index : Index) (place : ℕ) (side : End) (stream : ℕ) → AreAt sides charges
    → Covers charges (length charges) index → slice_get sides place ≡ Some (side, stream) → place_of index side stream ≡ None
    → AllCharges charges (length sides) → ⊥
lacks sides charges index place side stream own covers at none all =
    let h = all place (slice_get_within sides place (side, stream) at) in
    let c : ChargeState = h.1 in
    let e = some_pair_parts side c.side stream c.stream (sym at ∙ (ap (slice_get sides) (sym h.3) ∙ own h.0 c h.2)) in
    let f = covers.found h.0 c (slice_get_within charges h.0 c h.2) h.2 in
    none-some f.0 (sym none ∙ ((λ i. place_of index (e.0 i) (e.1 i)) ∙ f.1))

-- no number is marked at first
pub marks_none : (passes : List PassState) (marks : List Bool) → marks ≡ replicate 64 false → Marks passes 0 marks
marks_none passes marks none = record {
  kept = λ number is. absurd (clear 64 number (sym (ap (λ (l : List Bool). get_or l number false) none) ∙ is));
  found = λ j p lt at small. absurd (omega arith);
}
  where
    clear : (n k : ℕ) → get_or (replicate n false) k false ≡ true → ⊥
    clear zero k e = cc
    clear (suc n) zero e = cc
    clear (suc n) (suc k) e = clear n k e

-- one pass more
pub marks_more : (passes : List PassState) (n : ℕ) (old new : List Bool) (c : PassState) → slice_get passes n ≡ Some c
    → new ≡ set old c.number true → Marks passes n old → Marks passes (n + 1) new
marks_more passes n old new c at is before = record {
  kept = λ number marked. dite (ℕ_discrete number c.number)
      (λ same. (n, c, at, sym same))
      (λ other. before.kept number (sym (get_or-set_other old c.number number true false other) ∙ (sym (ap (λ (l : List Bool). get_or l number false) is) ∙ marked)));
  found = λ j d lt here small. dite (ℕ_discrete d.number c.number)
      (λ same. let long = ap (λ (l : List Bool). length l) is in let kept = length-set old c.number true in
      ap (λ (l : List Bool). get_or l d.number false) is ∙ (ap (λ k. get_or (set old c.number true) k false) same ∙ get_or-set_same old c.number true false (omega arith)))
      (λ other. let long = ap (λ (l : List Bool). length l) is in let kept = length-set old c.number true in
      ap (λ (l : List Bool). get_or l d.number false) is ∙ (get_or-set_other old c.number d.number true false other
      ∙ before.found j d (earlier j d lt here other) here (omega arith)));
}
  where
    earlier : (j : ℕ) (d : PassState) → j < n + 1 → slice_get passes j ≡ Some d → d.number ≢ c.number → j < n
    earlier j d lt here other = dite (ℕ_discrete j n)
        (λ same. let e : d ≡ c = same_Some d c (sym here ∙ (ap (slice_get passes) same ∙ at)) in absurd (other (ap (λ (z : PassState). z.number) e)))
        (λ ne. omega arith)

-- a number that is not marked has no pass
pub unmarked : (passes : List PassState) (marks : List Bool) (number count : ℕ) → Marks passes (length passes) marks → number < count → count ≤ length marks
    → get_or marks number false ≡ false → AllPasses passes count → ⊥
unmarked passes marks number count marked lt small not all =
    let h = all number lt in
    let there = h.3 in
    let below : h.1.number < length marks = omega arith in
    let yes : get_or marks number false ≡ true =
    ap (λ k. get_or marks k false) (sym there) ∙ marked.found h.0 h.1 (slice_get_within passes h.0 h.1 h.2) h.2 below in
    cc

-- the charges of a book stand at their places
pub are_at : (id : TableId) (sides : List (End × ℕ)) (charges : List ChargeState) → Each (IsChargeOf id sides) charges → AreAt sides charges
are_at id sides charges each j c is = (each-at (IsChargeOf id sides) charges j c is each).1
