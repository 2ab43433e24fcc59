use Rattle.std.proofs.Common.{◌≡◌, ℕ, Bool, false, List, [], ◌∷◌, Some, None, length, get_or, set, slice_get, sym, ap, ◌∙◌, subst, arith, inl, inr, ◌+◌, ⊎_elim, get_or-set_same, get_or-set_other, length-append}
use Rattle.std.proofs.lemmas.Option.{slice_get_within}
use Rattle.std.proofs.lemmas.Bool.{cases_lt}
use mathlib.Core.Option.{some, some-injective}
use mathlib.Core.Logic.{dite}
use native.Mathlib.Decide.{ℕ_discrete}
use lib.ListN.{get_elem?}
use Rattle.std.specs.Slots.{slots_items, slots_filled, slots_counts}
use Rattle.atomic_table.specs.Table.{Final, Seen}
use Rattle.amo_object.specs.declared.step.End.{End}
use Rattle.amo_object.specs.declared.step.End.TheVariants.{Sender}
use Rattle.amo_core.specs.declared.automaton.Automaton.{Automaton}
use Rattle.amo_book.specs.Pass.{automaton_after}
use Rattle.amo_book.specs.declared.view.View.{View}
use Rattle.amo_book.specs.declared.view.Setup.{Setup}
use Rattle.amo_book.specs.Rule.{Slot, Kept, Settled, HasAll, state_at, slot_of}
use Rattle.amo_book.proofs.Ends.{settles}
use Rattle.amo_book.proofs.Fills.{elem_index, get-push, is_map}
use Rattle.amo_book.proofs.board.Board.end.Goals as goal

settled : (key setup : Setup) → key ≡ setup → (id : ℕ) (v : View) (words : List ℕ) (slots : List Slot) → HasAll setup.passes v
    → Final (Seen (Kept (length key.sides.items) key.passes (state_at key.sides.items)) id v) words slots → Settled (length setup.sides.items) setup.passes (state_at setup.sides.items) v words slots
settled key setup e id v words slots all f =
    settles (length setup.sides.items) setup.passes (state_at setup.sides.items) id v words slots all (subst (λ (k : Setup). Final (Seen (Kept (length k.sides.items) k.passes (state_at k.sides.items)) id v) words slots) e f)

abbrev slot_some : Automaton → Slot
slot_some x = Some x

abbrev slot_none : Slot
slot_none = None

differ : (x : Automaton) → slot_none ≡ slot_some x → ⊥
differ x e = cc

same_state : (x y : Automaton) → slot_some x ≡ slot_some y → x ≡ y
same_state x y e = cc

pub unreachable-requires : goal.unreachable-requires
unreachable-requires c = let s = settled _ _ c.args.self.keyed _ _ _ _ c.requires.own.1 c.close_with-closed.ensures.values.2 in let lt = c.loop-place-test.true in
    let there = s.states c.loop-place.place (omega arith) in let here = sym (ap (λ l. get_elem? l (slot_of c.loop-place.place)) c.loop-place.invariant.items) ∙ (ap (get_elem? (slots_items c.loop-place.closed.slots)) (sym c.slot_of.ensures) ∙ c.take.ensures.value) in
    differ _ (sym c.in_default.is ∙ some-injective _ _ (sym here ∙ there))

pub loop-place-preserved : goal.loop-place-preserved
loop-place-preserved c = let i = c.loop-place.invariant in let o = c.take.ensures.others in let k : ℕ = c.loop-place.place in let at : ℕ = c.slot_of.result in
    let here : at ≡ slot_of k = c.slot_of.ensures in let next : c.slot_of-in-loop-place.result ≡ slot_of k = c.slot_of-in-loop-place.ensures in let after : c.slot_of-in-loop-place-2.result ≡ slot_of (k + 1) = c.slot_of-in-loop-place-2.ensures in
    let fs : List Bool = slots_filled c.loop-place.closed.slots in let e = c.clear.ensures in
    let counts = slots_counts c.loop-place.closed.slots in let long = i.long in let cap = c.push_reserved.ensures.capacity in let room = i.room in
    let lt = c.loop-place-test.true in let wide = i.wide in
    let pushed = c.push_reserved.ensures.items in record {
      items = e.same.0 ∙ (o.0 ∙ i.items);
      wide = e.same.1 ∙ (o.2 ∙ i.wide);
      full = λ j low high. e.others j (inr (omega arith)) ∙ (ap (λ l. get_or l j false) o.1 ∙ (get_or-set_other fs at j false false (λ e. omega arith) ∙ i.full j (omega arith) (omega arith)));
      empty = λ j low. dite (ℕ_discrete j at)
          (λ is. e.others j (inl (omega arith)) ∙ (ap (λ l. get_or l j false) o.1 ∙ (ap (λ n. get_or (set fs at false) n false) is ∙ get_or-set_same fs at false false (omega arith))))
          (λ ne. ⊎_elim (λ before. e.others j (inl (omega arith)) ∙ (ap (λ l. get_or l j false) o.1 ∙ (get_or-set_other fs at j false false ne ∙ i.empty j before)))
          (λ behind. e.cleared j (omega arith) (omega arith)) (cases_lt j (slot_of k)));
      long = omega (arith, ap length pushed, length-append c.loop-place.lasts.items (c.in-Some.state ∷ []));
      taken = λ j x e. ⊎_elim (λ was. i.taken j x was)
          (λ (t : (j ≡ length c.loop-place.lasts.items) × (c.in-Some.state ≡ x)). ap (λ n. get_elem? (slots_items c.close_with-closed.result.slots) (slot_of n)) (t.0 ∙ i.long)
          ∙ (ap (get_elem? (slots_items c.close_with-closed.result.slots)) (sym here) ∙ (sym (ap (λ l. get_elem? l at) i.items) ∙ (c.take.ensures.value ∙ (ap some c.in-Some.is ∙ ap (λ (z : Automaton). some (slot_some z)) t.1)))))
          (get-push c.loop-place.lasts.items c.in-Some.state x j (sym (ap (λ l. slice_get l j) pushed) ∙ e));
      room = omega arith;
    }

pub returns : goal.returns
returns c = let s = settled _ _ c.args.self.keyed _ _ _ _ c.requires.own.1 c.close_with-closed.ensures.values.2 in let i = c.loop-place.invariant in let long = i.long in let stop = c.loop-place-test.false in
    let n : length c.loop-place.lasts.items ≡ length c.args.self.setup.sides.items = omega arith in record {
      log = s.log;
      right = s.right;
      ours = s.ours;
      seen = s.seen;
      owns = s.owns;
      counted = elem_index (slots_items c.close_with-closed.result.words) 0 c.word-count.result c.word-count.ensures ∙ s.count;
      replays = is_map (λ (z : End × ℕ). automaton_after z.0 z.1 s.log) (Sender, 0) c.args.self.setup.sides.items c.loop-place.lasts.items n
          (λ j x e. let lt = slice_get_within c.loop-place.lasts.items j x e in same_state _ _ (some-injective _ _ (sym (i.taken j x e) ∙ s.states j (omega arith))));
    }
