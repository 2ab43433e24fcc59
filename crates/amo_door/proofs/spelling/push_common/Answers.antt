use Rattle.http1.specs.Head.{pairs}
use Rattle.amo_door.proofs.Written.{joined_where}
use Rattle.amo_door.proofs.spelling.push_common.Goals as goal

-- one field behind another
pub returns-clause-ok : goal.returns-clause-ok
returns-clause-ok c = joined_where c.push-2.result (pairs c.args.fields.now.items) _ _ _ _ c.in_ok-push.ensures.ok c.push-2.ensures.ok
