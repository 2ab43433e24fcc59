use Rattle.amo_audit.proofs.Explained.{pushed_step}
use Rattle.amo_audit.proofs.explaining.push_step.Goals as goal

pub returns : goal.returns
returns c = pushed_step c.args.text.now.items _ _ _ _ c.args.stream c.args.step.now c.in_ok-push_decimal.ensures.ok c.in_ok-push.ensures.items c.in_ok-push_fields.ensures c.in_ok-push-2.ensures.items
