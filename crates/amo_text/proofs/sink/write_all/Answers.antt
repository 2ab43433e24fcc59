use Rattle.std.proofs.Common.{◌∙◌}
use Rattle.amo_text.proofs.Written.{Appends-more, within_rest}
use Rattle.amo_text.proofs.sink.write_all.Goals as goal

pub loop-done-preserved : goal.loop-done-preserved
loop-done-preserved g c = record {
  within = within_rest _ _ _ c.loop-done.invariant.within c.in_ok-done.ensures.count.0;
  appended = Appends-more _ _ _ _ _ _ c.loop-done.invariant.appended c.in_ok-done.ensures.ok;
  calm = c.in_ok-done.ensures.calm ∙ c.loop-done.invariant.calm;
}
