use Rattle.std.proofs.Common.{◌≡◌, ℕ, List, length, get_or, replicate, ap, ◌∙◌, subst, arith}
use Rattle.std.proofs.lemmas.List.{length-replicate}
use Rattle.amo_object.specs.declared.step.End.{End}
use Rattle.amo_book.specs.Rule.{first_slot, state_at, Spaced, slot_of}
use Rattle.amo_book.proofs.Ends.{opens}
use Rattle.amo_book.proofs.Fills.{to_elem, zeros}
use Rattle.amo_book.proofs.board.Board.open.Goals as goal

pub new-requires : goal.new-requires
new-requires c =
    let sides : List (End × ℕ) = c.args.setup.sides.items in
    let n : c.len.result ≡ length sides = omega arith in
    let filled : c.in_ok-words.words.items ≡ replicate c.gate_of.result 0 = c.in_ok-words.ensures.items_if_clones_equal (λ y h. h) in
    let all : c.as_slice-2.result.now ≡ replicate c.gate_of.result 0 = c.as_slice-2.ensures.value ∙ filled in
    let long = simp length-replicate at (ap (λ (l : List ℕ). length l) all) in
    let wide = c.gate_of.ensures in
    let slots : Spaced (first_slot sides) (length sides) c.in_ok-slots.slots.items =
    subst (λ (l : List (End × ℕ)). Spaced (first_slot l) (length l) c.in_ok-slots.slots.items) c.as_slice.ensures.value c.in_ok-slots.ensures in
    opens (length sides) c.args.setup.passes (state_at sides) c.as_slice-2.result.now c.in_ok-slots.slots.items
    (omega (arith, long, wide)) (λ k. ap (λ (l : List ℕ). get_or l k 0) all ∙ zeros c.gate_of.result k)
    slots.0 (λ k lt. to_elem c.in_ok-slots.slots.items (slot_of k) (first_slot sides k) (slots.1 k lt))
