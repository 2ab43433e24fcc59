-- What each seat knows, while one view changes.
use Rattle.std.proofs.Common.{◌≡◌, ◌≢◌, ℕ, zero, suc, ◌<◌, List, [], ◌∷◌, length, get_or, set, Option, Some, None, refl, sym, ap, ◌∙◌, subst, ⊎_elim, arith}
use Rattle.std.proofs.lemmas.Option.{some_pair_parts}
use mathlib.Core.Logic.{dite}
use mathlib.Core.Option.{some, some-injective, some-ne-none}
use native.Mathlib.Decide.{ℕ_discrete}
use lib.ListN.{get_elem?}
use Rattle.atomic_table.specs.Table.{State, step, keeps, Allows}
use Rattle.atomic_table.proofs.Lists.{at_set, set_here, set_else}
use Rattle.amo_object.specs.declared.step.End.{End}
use Rattle.amo_core.specs.declared.automaton.Automaton.{Automaton}
use Rattle.amo_world.specs.declared.event.Event.{Event}
use Rattle.amo_world.proofs.Extensions.{itself}
use Rattle.amo_book.specs.declared.view.View.{View}
use Rattle.amo_book.specs.declared.view.Share.{Share}
use Rattle.amo_book.specs.Rule.{Slot, share, Has, Knows, Kept, gate_of}
use Rattle.amo_book.specs.Pass.{automaton_after}
use Rattle.amo_book.specs.Plays.{Sat, view, looked, saw}

abbrev pub Whole : Type 0
Whole = State Slot View

abbrev pub held_at : ℕ → Automaton → Option (ℕ × Automaton)
held_at k x = Some (k, x)

abbrev pub nothing_held : Option (ℕ × Automaton)
nothing_held = None

pub same_place : (k j : ℕ) (x y : Automaton) → held_at k x ≡ held_at j y → k ≡ j
same_place k j x y e = (some_pair_parts k j x y e).0

pub same_state : (k j : ℕ) (x y : Automaton) → held_at k x ≡ held_at j y → x ≡ y
same_state k j x y e = (some_pair_parts k j x y e).1

pub not_none : (k : ℕ) (x : Automaton) → nothing_held ≡ held_at k x → ⊥
not_none k x e = cc

pub same_view_at : (l : List View) (i : ℕ) (a b : View) → get_elem? l i ≡ some a → get_elem? l i ≡ some b → a ≡ b
same_view_at l i a b e f = some-injective a b (sym e ∙ f)

pub inside : (l : List View) (i : ℕ) (a : View) → get_elem? l i ≡ some a → i < length l
inside [] i a e = cc
inside (x ∷ xs) zero a e = omega arith
inside (x ∷ xs) (suc i) a e = let h = inside xs i a e in omega arith

pub set_same : (l : List ℕ) (i : ℕ) → set l i (get_or l i 0) ≡ l
set_same [] i = refl
set_same (x ∷ xs) zero = refl
set_same (x ∷ xs) (suc i) = ap (λ l. x ∷ l) (set_same xs i)

pub has_one : (p q : ℕ) (made m : List Event) → Has (share p made ∷ []) q m → (p ≡ q) × (made ≡ m)
has_one p q made m h = ⊎_elim (λ (e : share p made ≡ share q m). (ap (λ (z : Share). z.number) e, ap (λ (z : Share). z.made) e)) (λ n. absurd n) h

-- one view changes, and what is known of each other seat stays as it is told
pub each_set : (K : ℕ → View → Type 0) (views : List View) (id : ℕ) (w : View) → K id w
    → ((j : ℕ) (u : View) → j ≢ id → get_elem? views j ≡ some u → K j u)
    → (j : ℕ) (u : View) → get_elem? (set views id w) j ≡ some u → K j u
each_set K views id w here others j u e = ⊎_elim
    (λ (t : (j ≡ id) × (w ≡ u)). subst (λ (z : ℕ × View). K z.0 z.1) (λ i. (sym t.0 i, t.1 i)) here)
    (λ (t : (j ≢ id) × (get_elem? views j ≡ some u)). others j u t.0 t.1)
    (at_set views id j w u e)

module _ (places passes : ℕ) (replay : ℕ → List Event → Automaton) where
  abbrev pub Rule : Whole → Type 0
  Rule = Kept places passes replay

  -- one view changes, and holds what it held
  pub unmoved : (s : Whole) (r : Rule s) (id : ℕ) (v w : View) → get_elem? s.views id ≡ some v → w.held ≡ v.held
      → Knows places passes replay r.log r.holder r.owner s.words id w
      → (words : List ℕ) → words ≡ s.words → Rule record { words = words; homes = s.homes; views = set s.views id w }
  unmoved s r id v w at same knows words e = record {
    log = r.log;
    holder = r.holder;
    owner = r.owner;
    right = r.right;
    ours = r.ours;
    wide = ap length e ∙ r.wide;
    tall = r.tall;
    count = ap (λ l. get_or l 0 0) e ∙ r.count;
    each = subst (λ (l : List ℕ). (j : ℕ) (u : View) → get_elem? (set s.views id w) j ≡ some u → Knows places passes replay r.log r.holder r.owner l j u) (sym e)
        (each_set (Knows places passes replay r.log r.holder r.owner s.words) s.views id w knows (λ j u _ a. r.each j u a));
    free = λ k lt z. r.free k lt (ap (λ l. get_or l (gate_of k) 0) (sym e) ∙ z);
    busy = λ k lt z. let b = r.busy k lt (λ zero_there. z (ap (λ l. get_or l (gate_of k) 0) e ∙ zero_there)) in
        dite (ℕ_discrete (r.holder k) id)
        (λ is. let was : v ≡ b.0 = same_view_at s.views id v b.0 at (subst (λ i. get_elem? s.views i ≡ some b.0) is b.2) in
        (w, b.1, subst (λ i. get_elem? (set s.views id w) i ≡ some w) (sym is) (set_here s.views id w (inside s.views id v at)), same ∙ (ap (λ (z : View). z.held) was ∙ b.3)))
        (λ other. (b.0, b.1, set_else s.views id (r.holder k) w other ∙ b.2, b.3));
  }

  -- a load of the count keeps the rule, and the seat sees the whole history
  pub looks : (slots id : ℕ) (me : Sat) → Allows Rule slots id me 0 (λ n. n) (looked passes (step slots 0 0 0 mathlib.Core.Option.none) me)
  looks slots id me s r _ at _ =
      let v : View = me.0 in
      let k = r.each id v at in
      let w : View = view r.log v.met v.shares v.held in (
        w,
        keeps,
        tt,
        unmoved s r id v w at refl (record { seen = itself r.log; met = k.met; owns = k.owns; holds = k.holds; named = k.named })
            (set s.words 0 (get_or s.words 0 0)) (set_same s.words 0),
        ((refl, k.seen, k.met, r.right, (λ p m h. (k.owns p m h).2), r.count), r.ours),
      )

  -- the same of a seat that holds the side at a place: the side is as that history leaves it
  pub sees : (slots id k : ℕ) (me : Sat) (x : Automaton) (side : End) (stream : ℕ) → me.0.held ≡ held_at k x
      → ((log : List Event) → replay k log ≡ automaton_after side stream log)
      → Allows Rule slots id me 0 (λ n. n) (saw side stream (step slots 0 0 0 mathlib.Core.Option.none) me)
  sees slots id k me x side stream held is_side s r _ at _ =
      let v : View = me.0 in
      let known = r.each id v at in
      let w : View = view r.log v.met v.shares v.held in (
        w,
        keeps,
        tt,
        unmoved s r id v w at refl (record { seen = itself r.log; met = known.met; owns = known.owns; holds = known.holds; named = known.named })
            (set s.words 0 (get_or s.words 0 0)) (set_same s.words 0),
        (
          (refl, known.seen, known.met, r.right, (λ p m h. (known.owns p m h).2), r.count),
          λ j y e. (known.holds j y e).3 ∙ (ap (λ i. replay i r.log) (sym (same_place k j x y (sym held ∙ e))) ∙ is_side r.log),
        ),
      )
