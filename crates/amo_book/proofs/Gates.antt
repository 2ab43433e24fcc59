-- A gate is tried, and opened again.
use Rattle.std.proofs.Common.{◌≡◌, ◌≢◌, ℕ, cond, ◌<◌, ◌==◌, List, [], ◌∷◌, get_or, set, slice_index, Some, refl, sym, ap, ◌∙◌, subst, inl, arith, eqb, eq-eqb, ne_eqb, length-set, get_or-set_same, get_or-set_other}
use mathlib.Core.Logic.{dite}
use mathlib.Core.Option.{some}
use native.Mathlib.Decide.{ℕ_discrete}
use prog.Atomic.{either}
use lib.ListN.{get_elem?}
use Rattle.atomic_table.specs.Table.{step, stepped, keeps, takes, gives, Allows}
use Rattle.atomic_table.proofs.Lists.{set_here, set_else}
use Rattle.amo_object.specs.declared.step.End.{End}
use Rattle.amo_core.specs.declared.automaton.Automaton.{Automaton}
use Rattle.amo_world.specs.declared.event.Event.{Event}
use Rattle.amo_book.specs.declared.view.View.{View}
use Rattle.amo_book.specs.Pass.{automaton_after}
use Rattle.amo_book.specs.Rule.{Slot, Has, Knows, gate_of, slot_of}
use Rattle.amo_book.specs.Plays.{Sat, view, IsAtRest, taken, tried, freed}
use Rattle.amo_book.proofs.Seats.{Whole, held_at, nothing_held, same_place, same_state, not_none, same_view_at, inside, set_same, each_set, Rule, unmoved}
use Rattle.amo_book.proofs.Strides.{gate_is_not_count, same_gate, gates_differ, slots_differ, gate_within, slot_within}

module _ (places passes : ℕ) (replay : ℕ → List Event → Automaton) where
  abbrev R : Whole → Type 0
  R = Rule places passes replay

  taken_at : (s : Whole) (r : R s) (id k : ℕ) (me : Sat) → k < places → get_elem? s.views id ≡ some me.0 → IsAtRest me → slice_index s.words (gate_of k) ≡ 0
      → R record { words = set s.words (gate_of k) 1; homes = set s.homes (slot_of k) mathlib.Core.Option.none; views = set s.views id (taken k (replay k r.log) me).0 }
  taken_at s r id k me lt at rest zero_there =
      let v : View = me.0 in
      let x : Automaton = replay k r.log in
      let w : View = (taken k x me).0 in
      let holder' : ℕ → ℕ = λ j. cond (j == k) id (r.holder j) in
      let words' : List ℕ = set s.words (gate_of k) 1 in
      let here : holder' k ≡ id = ap (λ b. cond b id (r.holder k)) (eq-eqb k k refl) in
      let there : (j : ℕ) → j ≢ k → holder' j ≡ r.holder j = λ j n. ap (λ b. cond b id (r.holder j)) (ne_eqb j k n) in
      let now_one : get_or words' (gate_of k) 0 ≡ 1 = get_or-set_same s.words (gate_of k) 1 0 (subst (λ n. gate_of k < n) (sym r.wide) (gate_within k places lt)) in
      let else_same : (j : ℕ) → j ≢ k → get_or words' (gate_of j) 0 ≡ get_or s.words (gate_of j) 0 =
      λ j n. get_or-set_other s.words (gate_of k) (gate_of j) 1 0 (gates_differ j k n) in
      let mine = r.each id v at in
      let own : Knows places passes replay r.log holder' r.owner words' id w = record {
        seen = mine.seen;
        met = mine.met;
        owns = mine.owns;
        holds = λ j y e. let is : k ≡ j = same_place k j x y e in let same : x ≡ y = same_state k j x y e in (
          subst (λ i. i < places) is lt,
          subst (λ i. holder' i ≡ id) is here,
          subst (λ i. slice_index words' (gate_of i) ≢ 0) is (λ z. omega arith),
          sym same ∙ ap (λ i. replay i r.log) is,
        );
        named = λ j y e. (rest.2.0, rest.2.1, subst (λ l. Has l rest.2.0 rest.2.1) (sym rest.2.2) (inl refl));
      } in
      let others : (j : ℕ) (u : View) → j ≢ id → get_elem? s.views j ≡ some u → Knows places passes replay r.log holder' r.owner words' j u =
      λ j u other a. let k' = r.each j u a in record {
        seen = k'.seen;
        met = k'.met;
        owns = k'.owns;
        holds = λ i y e. let t = k'.holds i y e in let apart' : i ≢ k = (λ z. t.2 (ap (λ q. slice_index s.words (gate_of q)) z ∙ zero_there)) in
            (t.0, there i apart' ∙ t.1, (λ z. t.2 (sym (else_same i apart') ∙ z)), t.3);
        named = k'.named;
      } in record {
        log = r.log;
        holder = holder';
        owner = r.owner;
        right = r.right;
        ours = r.ours;
        wide = length-set s.words (gate_of k) 1 ∙ r.wide;
        tall = length-set s.homes (slot_of k) mathlib.Core.Option.none ∙ r.tall;
        count = get_or-set_other s.words (gate_of k) 0 1 0 (λ e. gate_is_not_count k (sym e)) ∙ r.count;
        each = each_set (Knows places passes replay r.log holder' r.owner words') s.views id w own others;
        free = λ j l z. let apart' : j ≢ k = (λ e. let one : get_or words' (gate_of j) 0 ≡ 1 = ap (λ q. get_or words' (gate_of q) 0) e ∙ now_one in omega arith) in
            set_else s.homes (slot_of k) (slot_of j) mathlib.Core.Option.none (slots_differ j k apart') ∙ r.free j l (sym (else_same j apart') ∙ z);
        busy = λ j l z. dite (ℕ_discrete j k)
            (λ is. (w, x, subst (λ i. get_elem? (set s.views id w) i ≡ some w) (sym (ap holder' is ∙ here)) (set_here s.views id w (inside s.views id v at)), ap (λ i. held_at i x) (sym is)))
            (λ other. let b = r.busy j l (λ e. z (else_same j other ∙ e)) in
            let not_me : r.holder j ≢ id = (λ e. let was : v ≡ b.0 = same_view_at s.views id v b.0 at (subst (λ i. get_elem? s.views i ≡ some b.0) e b.2) in
            not_none j b.1 (sym rest.1 ∙ (ap (λ (q : View). q.held) was ∙ b.3))) in
            (b.0, b.1, ap (get_elem? (set s.views id w)) (there j other) ∙ (set_else s.views id (r.holder j) w not_me ∙ b.2), b.3));
      }

  -- one try: the seat has the side where the gate was open, and nothing changes where it was not
  pub tries : (slots id k : ℕ) (me : Sat) (side : End) (stream : ℕ) → k < places → IsAtRest me
      → ((log : List Event) → replay k log ≡ automaton_after side stream log)
      → Allows R slots id me (gate_of k) (λ n. either (eqb n 0) 1 n) (tried side stream (step slots (gate_of k) 0 1 mathlib.Core.Option.none) me)
  tries slots id k me side stream lt rest is_side s r _ at _ =
      let v : View = me.0 in
      let found : ℕ = get_or s.words (gate_of k) 0 in
      dite (ℕ_discrete found 0)
      (λ hit. let x : Automaton = replay k r.log in (
        (taken k x me).0,
        takes (slot_of k) (Some x),
        r.free k lt hit,
        subst (λ b. R (stepped s (gate_of k) (either b 1 found) id me.1 (taken k x me).0 (takes (slot_of k) (Some x)))) (sym (eq-eqb found 0 hit)) (taken_at s r id k me lt at rest hit),
        (
          (λ _ j e. let is : j ≡ k = same_gate j k (sym e) in
              (x, (r.log, is_side r.log), ap (λ l. let t : Sat = ((taken k x me).0, (slot_of k, Some x) ∷ l) in t) rest.0 ∙ ap (λ i. taken i x me) (sym is))),
          λ miss. absurd (miss hit),
        ),
      ))
      (λ miss. (
        v,
        keeps,
        tt,
        subst (λ b. R (stepped s (gate_of k) (either b 1 found) id me.1 v keeps)) (sym (ne_eqb found 0 miss))
            (unmoved places passes replay s r id v v at refl (r.each id v at) (set s.words (gate_of k) found) (set_same s.words (gate_of k))),
        ((λ hit. absurd (miss hit)), λ _. refl),
      ))

  -- the side goes home as the view has it, and its gate is open
  pub frees : (slots id k : ℕ) (x : Automaton) (me : Sat) → me.1 ≡ (slot_of k, Some x) ∷ [] → me.0.held ≡ held_at k x
      → Allows R slots id me (gate_of k) (λ _. 0) (λ _. freed (step slots (gate_of k) 0 0 mathlib.Core.Option.none) me 0)
  frees slots id k x me has held s r _ at _ =
      let v : View = me.0 in
      let w : View = view v.seen v.met v.shares nothing_held in
      let mine = r.each id v at in
      let t = mine.holds k x held in
      let words' : List ℕ = set s.words (gate_of k) 0 in
      let lt = t.0 in
      let now_zero : get_or words' (gate_of k) 0 ≡ 0 = get_or-set_same s.words (gate_of k) 0 0 (subst (λ n. gate_of k < n) (sym r.wide) (gate_within k places lt)) in
      let else_same : (j : ℕ) → j ≢ k → get_or words' (gate_of j) 0 ≡ get_or s.words (gate_of j) 0 =
      λ j n. get_or-set_other s.words (gate_of k) (gate_of j) 0 0 (gates_differ j k n) in
      let homes' : List (mathlib.Core.Option.Option Slot) = set s.homes (slot_of k) (some (Some x)) in
      let own : Knows places passes replay r.log r.holder r.owner words' id w =
      record { seen = mine.seen; met = mine.met; owns = mine.owns; holds = λ j y e. absurd (not_none j y e); named = λ j y e. absurd (not_none j y e) } in
      let others : (j : ℕ) (u : View) → j ≢ id → get_elem? s.views j ≡ some u → Knows places passes replay r.log r.holder r.owner words' j u =
      λ j u other a. let k' = r.each j u a in record {
        seen = k'.seen;
        met = k'.met;
        owns = k'.owns;
        holds = λ i y e. let q = k'.holds i y e in let apart' : i ≢ k = (λ z. other (sym q.1 ∙ (ap r.holder z ∙ t.1))) in
            (q.0, q.1, (λ z. q.2 (sym (else_same i apart') ∙ z)), q.3);
        named = k'.named;
      } in
      let kept : R record { words = words'; homes = homes'; views = set s.views id w } = record {
        log = r.log;
        holder = r.holder;
        owner = r.owner;
        right = r.right;
        ours = r.ours;
        wide = length-set s.words (gate_of k) 0 ∙ r.wide;
        tall = length-set s.homes (slot_of k) (some (Some x)) ∙ r.tall;
        count = get_or-set_other s.words (gate_of k) 0 0 0 (λ e. gate_is_not_count k (sym e)) ∙ r.count;
        each = each_set (Knows places passes replay r.log r.holder r.owner words') s.views id w own others;
        free = λ j l z. dite (ℕ_discrete j k)
            (λ is. ap (λ i. get_elem? homes' (slot_of i)) is ∙ (set_here s.homes (slot_of k) (some (Some x)) (subst (λ n. slot_of k < n) (sym r.tall) (slot_within k places lt))
            ∙ (ap (λ (y : Automaton). some (some (Some y))) t.3 ∙ ap (λ i. some (some (Some (replay i r.log)))) (sym is))))
            (λ other. set_else s.homes (slot_of k) (slot_of j) (some (Some x)) (slots_differ j k other) ∙ r.free j l (sym (else_same j other) ∙ z));
        busy = λ j l z. let apart' : j ≢ k = (λ e. z (ap (λ q. get_or words' (gate_of q) 0) e ∙ now_zero)) in
            let b = r.busy j l (λ e. z (else_same j apart' ∙ e)) in
            let not_me : r.holder j ≢ id = (λ e. let was : v ≡ b.0 = same_view_at s.views id v b.0 at (subst (λ i. get_elem? s.views i ≡ some b.0) e b.2) in
            apart' (sym (same_place k j x b.1 (sym held ∙ (ap (λ (q : View). q.held) was ∙ b.3))))) in
            (b.0, b.1, set_else s.views id (r.holder j) w not_me ∙ b.2, b.3);
      } in (
        w,
        gives,
        tt,
        subst (λ (l : List (ℕ × Slot)). R (stepped s (gate_of k) 0 id l w gives)) (sym has) kept,
        ap (λ (l : List (ℕ × Slot)). let m : Sat = (w, Rattle.atomic_table.specs.Table.rest l) in m) has,
      )
