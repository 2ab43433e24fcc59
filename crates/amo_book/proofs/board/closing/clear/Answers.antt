use Rattle.std.proofs.Common.{ℕ, false, get_or, set, inl, inr, ap, ◌∙◌, ⊎_elim, arith, get_or-set_same, get_or-set_other}
use mathlib.Core.Logic.{dite}
use native.Mathlib.Decide.{ℕ_discrete}
use Rattle.std.specs.Slots.{slots_filled, slots_counts}
use Rattle.amo_book.proofs.board.closing.clear.Goals as goal

pub loop-index-preserved : goal.loop-index-preserved
loop-index-preserved c = let i = c.loop-index.invariant in let o = c.take.ensures.others in let k : ℕ = c.loop-index.index in let fs = slots_filled c.loop-index.closed.slots in
    let counts = slots_counts c.loop-index.closed.slots in let lt = c.loop-index-test.true in let wide = i.wide in let begun = i.begun in let within = c.requires.within in record {
      items = o.0 ∙ i.items;
      wide = o.2 ∙ i.wide;
      begun = omega arith;
      cleared = λ j low high. ap (λ l. get_or l j false) o.1 ∙ dite (ℕ_discrete j k)
          (λ e. ap (λ n. get_or (set fs k false) n false) e ∙ get_or-set_same fs k false false (omega arith))
          (λ ne. get_or-set_other fs k j false false ne ∙ i.cleared j low (omega arith));
      others = λ j out. ap (λ l. get_or l j false) o.1 ∙ (get_or-set_other fs k j false false (λ e. ⊎_elim (λ low. absurd (omega arith)) (λ high. absurd (omega arith)) out)
          ∙ i.others j (⊎_elim (λ low. inl low) (λ high. inr (omega arith)) out));
    }
