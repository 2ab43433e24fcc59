use Rattle.std.proofs.Common.{◌≡◌, false, ap, ◌∙◌, rules}
use Rattle.json.specs.Json.{object}
use Rattle.json.specs.Value.{members_view, value_view}
use Rattle.json.proofs.Trees.{view-Object}
use Rattle.amo_lines.specs.Object.{are_members}
use Rattle.amo_lines.proofs.object.check_members.Goals as goal

pub returns-else-are_members-clause-err : goal.returns-else-are_members-clause-err
returns-else-are_members-clause-err c =
    let unknown : are_members (members_view c.in-Object.members.items) ≡ false = search rules in
    let seen : value_view c.args.value.now ≡ object (members_view c.in-Object.members.items) = ap value_view c.in-Object.is ∙ view-Object c.in-Object.members in
    rw seen unknown
