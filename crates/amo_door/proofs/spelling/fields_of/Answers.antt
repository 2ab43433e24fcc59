use Rattle.std.proofs.Common.{rules}
use Rattle.amo_door.specs.Spelling.{close_fields, common_fields, extra_fields, page_fields, type_fields}
use Rattle.amo_door.proofs.Written.{all_fields}
use Rattle.amo_door.proofs.spelling.fields_of.Goals as goal

-- one kind behind another
pub returns-clause-ok : goal.returns-clause-ok
returns-clause-ok c =
    let answer = c.args.answer.now in
    all_fields common_fields (type_fields answer.kind) (page_fields answer.kind) (extra_fields answer.extra) (close_fields c.args.closes) c.new-fields.result.items _ _ _ _ _
    (search rules) c.in_ok-push_common.ensures.ok c.in_ok-push_type.ensures.ok c.in_ok-push_page.ensures.ok c.in_ok-push_extra.ensures.ok c.in_ok-push_close.ensures.ok
