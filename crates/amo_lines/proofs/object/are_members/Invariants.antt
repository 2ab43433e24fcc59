use Rattle.std.specs.Prelude.{◌≡◌, drop}
use Rattle.json.specs.Value.{members_view}
use Rattle.amo_lines.specs.Object.{are_members}
use Rattle.amo_lines.proofs.object.are_members.Given as goal

-- those so far have names that are known
abbrev pub invariant-members : goal.invariant-members
invariant-members l = are_members (members_view l.fn.members) ≡ are_members (members_view (drop l.member-index l.members))
