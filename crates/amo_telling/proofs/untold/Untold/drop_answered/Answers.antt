use Rattle.std.proofs.Common.{◌∙◌, get_or, sym, subst, take}
use Rattle.std.proofs.lemmas.List.{take_more}
use Rattle.amo_telling.specs.Untold.{Drops}
use Rattle.amo_telling.proofs.Untolds.{dropped_more}
use Rattle.amo_telling.proofs.untold.Untold.drop_answered.Goals as goal

pub loop-number-preserved : goal.loop-number-preserved
loop-number-preserved c =
    let so_far = c.loop-number.invariant in
    let same = c.drop_if_answered.ensures.same in
    record {
      same = (same.0 ∙ so_far.same.0, same.1 ∙ so_far.same.1, same.2 ∙ so_far.same.2);
      dropped = subst (Drops c.args.self.now c.drop_if_answered.new.self) (sym (take_more c.args.sent.now c.loop-number.number-index 0 c.loop-number-test.true))
          (dropped_more c.args.self.now c.loop-number.self c.drop_if_answered.new.self (take c.loop-number.number-index c.args.sent.now) (get_or c.args.sent.now c.loop-number.number-index 0)
          so_far.same.0 so_far.dropped c.drop_if_answered.ensures.dropped);
    }
