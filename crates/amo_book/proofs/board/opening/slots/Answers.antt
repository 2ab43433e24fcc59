use Rattle.std.proofs.Common.{[], Some, sym, ap, ◌∙◌, subst, arith, slice_get}
use Rattle.amo_core.specs.declared.automaton.Automaton.{Automaton}
use Rattle.amo_book.specs.Rule.{Slot, first_slot, Spaced}
use Rattle.amo_book.proofs.Histories.{state_at-is}
use Rattle.amo_book.proofs.Fills.{spaced-none, spaced-more}
use Rattle.amo_book.proofs.board.opening.slots.Goals as goal

pub loop-place-init : goal.loop-place-init
loop-place-init c = let e = c.in_ok-slots.ensures.items in let room = c.in_ok-slots.ensures.capacity in let wide = c.slot_of.ensures in
    (subst (Spaced (first_slot c.args.sides.now) 0) (sym e) (spaced-none (first_slot c.args.sides.now)), omega arith)

abbrev filled : Automaton → Slot
filled x = Some x

pub loop-place-preserved : goal.loop-place-preserved
loop-place-preserved c =
    let e = c.push_reserved.ensures.items in
    let room = c.push_reserved.ensures.capacity in
    let still = c.leave_room.ensures.room in
    let was = c.loop-place.invariant.1 in
    let is = ap filled (c.in_ok-housed.ensures ∙ (c.initial.ensures ∙ sym (state_at-is c.args.sides.now c.loop-place.place c.site_at.result.side c.site_at.result.stream []
    (ap (slice_get c.args.sides.now) (sym c.site_at.ensures.1) ∙ c.site_at.ensures.0)))) in
    (spaced-more (first_slot c.args.sides.now) _ _ _ _ is c.loop-place.invariant.0 (rw (sym e) c.leave_room.ensures.long) (rw (sym e) c.leave_room.ensures.kept), omega arith)
