-- The table at its opening and at its end.
use Rattle.std.proofs.Common.{◌≡◌, ℕ, zero, suc, ◌<◌, List, [], ◌∷◌, map, length, get_or, Some, refl, sym, ap, ◌∙◌, subst, ⊎_elim, arith}
use Rattle.std.proofs.lemmas.List.{length-map}
use mathlib.Core.Logic.{dite}
use mathlib.Core.Option.{some, some-injective, some-ne-none}
use native.Mathlib.Decide.{ℕ_discrete}
use lib.ListN.{get_elem?}
use Rattle.atomic_table.specs.Table.{opening, Final, Seen}
use Rattle.amo_core.specs.declared.automaton.Automaton.{Automaton}
use Rattle.amo_world.specs.declared.event.Event.{Event}
use Rattle.amo_book.specs.declared.view.View.{View}
use Rattle.amo_book.specs.Rule.{Slot, first_view, Knows, Settled, HasAll, gate_of, slot_of}
use Rattle.amo_book.proofs.Seats.{Whole, not_none, same_view_at, Rule}
use Rattle.amo_book.proofs.Sharing.{from_nothing, at_end, fresh-has}

map-at : (xs : List Slot) (k : ℕ) (y : Slot) → get_elem? xs k ≡ some y → get_elem? (map some xs) k ≡ some (some y)
map-at [] k y e = absurd (some-ne-none y (sym e))
map-at (x ∷ xs) zero y e = ap (λ (z : Slot). some (some z)) (some-injective x y e)
map-at (x ∷ xs) (suc k) y e = map-at xs k y e

module _ (places passes : ℕ) (replay : ℕ → List Event → Automaton) where
  abbrev R : Whole → Type 0
  R = Rule places passes replay

  -- words of 0, each automaton as nothing leaves it, and one seat with every share
  pub opens : (words : List ℕ) (slots : List Slot) → length words ≡ gate_of places → ((k : ℕ) → get_or words k 0 ≡ 0) → length slots ≡ slot_of places
      → ((k : ℕ) → k < places → get_elem? slots (slot_of k) ≡ some (Some (replay k [])))
      → R (opening words slots (first_view passes))
  opens words slots wide zeros tall starts =
      let v : View = first_view passes in
      let K : ℕ → View → Type 0 = Knows places passes replay [] (λ _. 0) (λ _. 0) words in
      let first : K 0 v = record {
        seen = from_nothing [];
        met = from_nothing [];
        owns = λ q m h. let z = fresh-has 0 passes q m h in let hi = z.1 in (omega arith, refl, sym z.2);
        holds = λ k x e. absurd (not_none k x e);
        named = λ k x e. absurd (not_none k x e);
      } in record {
        log = [];
        holder = λ _. 0;
        owner = λ _. 0;
        right = tt;
        ours = tt;
        wide = wide;
        tall = length-map slots some ∙ tall;
        count = zeros 0;
        each = λ j u a. ⊎_elim (λ h. absurd (some-ne-none u (sym h)))
            (λ (t : (j ≡ 0) × (v ≡ u)). subst (λ (z : ℕ × View). K z.0 z.1) (λ i. (sym t.0 i, t.1 i)) first)
            (at_end [] v u j a);
        free = λ k l _. map-at slots (slot_of k) (Some (replay k [])) (starts k l);
        busy = λ k l z. absurd (z (zeros (gate_of k)));
      }

  -- where one seat has every share and holds nothing, nobody holds anything
  pub settles : (id : ℕ) (v : View) (words : List ℕ) (slots : List Slot) → HasAll passes v → Final (Seen R id v) words slots
      → Settled places passes replay v words slots
  settles id v words slots all f =
      let s : Whole = f.0 in
      let r : R s = f.1.0 in
      let at = f.1.1 in
      let mine = r.each id v at in record {
        log = r.log;
        right = r.right;
        ours = r.ours;
        seen = mine.seen;
        owns = λ p m h. (mine.owns p m h).2;
        count = ap (λ l. get_or l 0 0) (sym f.2) ∙ r.count;
        states = λ k l. let zero_there : get_or s.words (gate_of k) 0 ≡ 0 = dite (ℕ_discrete (get_or s.words (gate_of k) 0) 0) (λ z. z)
            (λ n. let b = r.busy k l n in
            let theirs = r.each (r.holder k) b.0 b.2 in
            let named = theirs.named k b.1 b.3 in
            let o = theirs.owns named.0 named.1 named.2 in
            let m = all.1 named.0 o.0 in
            let own = mine.owns named.0 m.0 m.1 in
            let is : r.holder k ≡ id = sym o.1 ∙ own.1 in
            let was : v ≡ b.0 = same_view_at s.views id v b.0 at (subst (λ i. get_elem? s.views i ≡ some b.0) is b.2) in
            absurd (not_none k b.1 (sym all.0 ∙ (ap (λ (q : View). q.held) was ∙ b.3)))) in
            f.4 (slot_of k) (Some (replay k r.log)) (r.free k l zero_there);
      }
