use Rattle.http1.specs.Head.{pairs}
use Rattle.amo_door.proofs.Written.{joined, joined_where}
use Rattle.amo_door.proofs.spelling.push_message.Goals as goal

-- one field behind another
pub returns-clause-ok : goal.returns-clause-ok
returns-clause-ok c =
    let start = pairs c.args.fields.now.items in
    let two = joined start _ _ _ _ c.in_ok-push_number.ensures.ok c.in_ok-push_number-2.ensures.ok in
    let three = joined start _ _ _ _ two c.in_ok-push_number-3.ensures.ok in
    joined_where c.push_number-4.result start _ _ _ _ three c.push_number-4.ensures.ok
