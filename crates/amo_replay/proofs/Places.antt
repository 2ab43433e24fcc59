-- Where the sides of a book and their charges stand.
use Rattle.std.proofs.Common.{◌≡◌, ℕ, zero, suc, ◌+◌, ◌<◌, List, [], ◌∷◌, ◌++◌, ◌⊎◌, inl, inr, ⊎_elim, length, get_or, slice_get, slice_set, Some, refl, sym, ap, ◌∙◌, subst, arith, length-append}
use Rattle.std.proofs.lemmas.Option.{slice_get-get_or, slice_get_within}
use Rattle.std.proofs.lemmas.List.{length-set}
use Rattle.atomic_table.specs.Seated.{TableId}
use Rattle.amo_object.specs.declared.step.End.{End}
use Rattle.amo_object.specs.declared.step.End.TheVariants.{Sender, Receiver}
use Rattle.amo_core.specs.declared.mode.Mode.{Mode}
use Rattle.amo_world.specs.Stream.{IsStream}
use Rattle.amo_book.specs.Charge.{ChargeState, IsChargeOf}
use Rattle.amo_book.specs.Book.{Each, IsLawful, AreFirstCharges, first_charge}
use Rattle.amo_book.specs.Closed.{AllCharges}
use Rattle.amo_book.proofs.Fills.{each-from, get-push}
use Rattle.amo_replay.specs.Sides.{place_of, AreSides, AreCharges}

-- no two sides have one place
pub one_side : (a b : End) (s t : ℕ) → IsStream s → IsStream t → place_of a s ≡ place_of b t → (a ≡ b) × (s ≡ t)
one_side Sender Sender s t p q e = (refl, omega arith)
one_side Sender Receiver s t p q e = absurd (omega arith)
one_side Receiver Sender s t p q e = absurd (omega arith)
one_side Receiver Receiver s t p q e = (refl, omega arith)

pub place_within : (side : End) (stream : ℕ) → IsStream stream → place_of side stream < 512
place_within Sender stream h = omega arith
place_within Receiver stream h = omega arith

side_pair : (t : End × ℕ) (side : End) (stream : ℕ) → (side ≡ t.0) × (stream ≡ t.1) → t ≡ (side, stream)
side_pair t side stream (a, b) = λ i. (sym a i, sym b i)

-- a side stands at its place
pub side_there : (sides : List (End × ℕ)) → AreSides sides → (side : End) (stream : ℕ) → IsStream stream → slice_get sides (place_of side stream) ≡ Some (side, stream)
side_there sides all side stream h =
    let place = place_of side stream in
    let within : place < length sides = (let count = all.count in let less = place_within side stream h in omega arith) in
    let t : End × ℕ = get_or sides place (Sender, 0) in
    let there : slice_get sides place ≡ Some t = slice_get-get_or sides place (Sender, 0) within in
    let found = all.each place t.0 t.1 there in
    there ∙ ap (λ (x : End × ℕ). Some x) (side_pair t side stream (one_side side t.0 stream t.1 h found.1 found.0))

-- a book may be opened with these sides
pub lawful : (sides : List (End × ℕ)) → AreSides sides → IsLawful sides 2
lawful sides all = record {
  sides_are = record {
    some = (let count = all.count in omega arith);
    streams = λ k side stream is. (all.each k side stream is).1;
    apart = λ i j side at_i at_j. (all.each i side.0 side.1 at_i).0 ∙ sym (all.each j side.0 side.1 at_j).0;
  };
  two = omega arith;
  many = omega arith;
}

-- the sides up to a place
pub record FirstSides (n : ℕ) (sides : List (End × ℕ)) : Type 0 where
  pub count : length sides ≡ n
  pub each : (place : ℕ) (side : End) (stream : ℕ) → slice_get sides place ≡ Some (side, stream) → (place ≡ place_of side stream) × IsStream stream

pub one_more_side : (n : ℕ) (sides : List (End × ℕ)) (t : End × ℕ) → FirstSides n sides → (n ≡ place_of t.0 t.1) × IsStream t.1 → FirstSides (n + 1) (sides ++ t ∷ [])
one_more_side n sides t first at = record {
  count = (let count = first.count in omega (arith, length-append sides (t ∷ [])));
  each = λ place side stream is. ⊎_elim
      (λ before. first.each place side stream before)
      (λ (here : (place ≡ length sides) × (t ≡ (side, stream))).
      subst (λ (x : End × ℕ). (place ≡ place_of x.0 x.1) × IsStream x.1) here.1 (here.0 ∙ first.count ∙ at.0, at.1))
      (get-push sides t (side, stream) place is);
}

-- the entry at a place within
module _ {X : Type 0} where
  pub entry : (xs : List X) (k : ℕ) (x d : X) → k < length xs → x ≡ get_or xs k d → slice_get xs k ≡ Some x
  entry xs k x d within is = slice_get-get_or xs k d within ∙ ap (λ (y : X). Some y) (sym is)

  pub same_some : (x y : X) → Some x ≡ Some y → x ≡ y
  same_some x y e = cc

  -- an entry after one was replaced is the new one, or stood there before
  pub entry_after : (xs : List X) (k j : ℕ) (d x : X) → slice_get (slice_set xs k d) j ≡ Some x → ((j ≡ k) × (d ≡ x)) ⊎ (slice_get xs j ≡ Some x)
  entry_after [] k j d x e = inr e
  entry_after (y ∷ ys) zero zero d x e = inl (refl, same_some d x e)
  entry_after (y ∷ ys) zero (suc j) d x e = inr e
  entry_after (y ∷ ys) (suc k) zero d x e = inr e
  entry_after (y ∷ ys) (suc k) (suc j) d x e = ⊎_elim (λ (h : (j ≡ k) × (d ≡ x)). inl (ap suc h.0, h.1)) (λ h. inr h) (entry_after ys k j d x e)

  pub some_entry : (xs : List X) (k : ℕ) → k < length xs → (x : X) × (slice_get xs k ≡ Some x)
  some_entry [] k h = absurd (omega arith)
  some_entry (y ∷ ys) zero h = (y, refl)
  some_entry (y ∷ ys) (suc k) h = some_entry ys k (omega arith)

-- the charges that a book is opened with
pub first_charges : (id : TableId) (sides : List (End × ℕ)) (charges : List ChargeState) → AreFirstCharges id sides charges → AreCharges id sides charges
first_charges id sides charges (count, each) = record {
  count = count;
  each = λ place charge at.
      let (side, there) = some_entry sides place (let within = slice_get_within charges place charge at in omega arith) in
      let is : first_charge id place side.0 side.1 ≡ charge = same_some _ _ (sym (each place side.0 side.1 there) ∙ at) in
      subst (λ (c : ChargeState). (c.place ≡ place) × IsChargeOf id sides c) is (refl, (refl, there));
}

-- the charges where one has another mode
pub charges_after : (id : TableId) (sides : List (End × ℕ)) (charges : List ChargeState) (k : ℕ) (c d : ChargeState) (mode : Mode)
    → AreCharges id sides charges → slice_get charges k ≡ Some c → d ≡ record c { mode = mode } → AreCharges id sides (slice_set charges k d)
charges_after id sides charges k c d mode all at is = record {
  count = length-set charges k d ∙ all.count;
  each = λ place charge there. ⊎_elim
      (λ (h : (place ≡ k) × (d ≡ charge)).
      let was = all.each k c at in
      subst (λ (x : ChargeState). (x.place ≡ place) × IsChargeOf id sides x) (sym is ∙ h.1) (was.0 ∙ sym h.0, was.1))
      (λ before. all.each place charge before)
      (entry_after charges k place d charge there);
}

-- each is the book's, and none lacks
pub each_charge : (id : TableId) (sides : List (End × ℕ)) (charges : List ChargeState) → AreCharges id sides charges → Each (IsChargeOf id sides) charges
each_charge id sides charges all = each-from (IsChargeOf id sides) charges (λ k x at. (all.each k x at).1)

pub all_charges : (id : TableId) (sides : List (End × ℕ)) (charges : List ChargeState) → AreCharges id sides charges → AllCharges charges (length sides)
all_charges id sides charges all = λ place within.
    let (c, there) = some_entry charges place (let count = all.count in omega arith) in (place, c, there, (all.each place c there).0)

-- the charge at the place of a side is the side's
pub charge_there : (id : TableId) (sides : List (End × ℕ)) (charges : List ChargeState) (side : End) (stream : ℕ) (k : ℕ) (c : ChargeState)
    → AreSides sides → AreCharges id sides charges → IsStream stream → k ≡ place_of side stream → slice_get charges k ≡ Some c
    → (c.side ≡ side) × (c.stream ≡ stream)
charge_there id sides charges side stream k c places all h is at =
    let was = all.each k c at in
    let found = places.each c.place c.side c.stream was.1.1 in
    one_side c.side side c.stream stream found.1 h (sym found.0 ∙ was.0 ∙ is)
