use Rattle.std.proofs.Common.{◌≡◌, ℕ, List, length, take, arith, sym, ap, ◌∙◌}
use Rattle.amo_pieces.specs.Places.{ends_in}
use Rattle.amo_pieces.proofs.Added.{keeps_more}
use Rattle.amo_pieces.proofs.Counts.{ends_on, front_grown, grown, long_grown}
use Rattle.amo_pieces.proofs.pieces.Pieces.add.Goals as goal

pub returns-clause-added : goal.returns-clause-added
returns-clause-added g c =
    let joined = c.in_ok-left_out.ensures.joined in
    let pushed = rw c.reserve.ensures.items at c.in_ok-push.ensures.items in
    let told = rw c.as_slice.ensures.value at c.is_whole-goes_on.ensures in
    let kept = c.args.self.now in
    let counted = ends_on kept.text.items c.as_slice-2.result.now kept.counted kept.ends c.count_ends.result c.as_slice-2.ensures.value kept.within kept.are_ends c.count_ends.ensures in
    (joined.0, joined.1, keeps_more kept _ joined.0 _ pushed joined.2 told counted)

pub invariant_of-self-2-clause-within : goal.invariant_of-self-2-clause-within
invariant_of-self-2-clause-within g c =
    let joined = c.in_ok-left_out.ensures.joined in
    let long = long_grown c.args.self.now.text.items c.read_behind.new.text.items (grown c.args.self.now.text.items joined.0 c.read_behind.new.text.items c.in_ok-left_out.left_out joined.2) in
    let before = c.len-before.ensures in
    omega (arith, long, before)

pub invariant_of-self-2-clause-are_ends : goal.invariant_of-self-2-clause-are_ends
invariant_of-self-2-clause-are_ends g c =
    let joined = c.in_ok-left_out.ensures.joined in
    let kept = c.args.self.now in
    let text = c.read_behind.new.text.items in
    let counted = ends_on kept.text.items c.as_slice-2.result.now kept.counted kept.ends c.count_ends.result c.as_slice-2.ensures.value kept.within kept.are_ends c.count_ends.ensures in
    let front = front_grown kept.text.items text (grown kept.text.items joined.0 text c.in_ok-left_out.left_out joined.2) in
    let before = c.len-before.ensures in
    let is : length kept.text.items ≡ c.len-before.result = omega (arith, before) in
    counted ∙ (ap (λ (l : List ℕ). ends_in l) (sym front) ∙ ap (λ (n : ℕ). ends_in (take n text)) is)
