use Rattle.std.proofs.Common.{ap, ◌∙◌, ◌++◌, List, ℕ}
use Rattle.std.specs.Prelude.{codes}
use Rattle.amo_door.specs.Answer.{side_member}
use Rattle.amo_door.specs.Json.{quoted}
use Rattle.amo_door.proofs.Appends.{three}
use Rattle.amo_door.proofs.json.push_program.Goals as goal

pub returns : goal.returns
returns c =
    let before = c.extend_from_slice.new.self.items in
    three c.push_side.result c.args.text.now.items (codes ",\"version\":") (quoted c.args.about.now.version.now) (side_member c.args.about.now.side) before c.push_quoted.new.shown.items c.push_side.new.text.items
    c.in_ok-extend_from_slice.ensures.items (c.in_ok-push_quoted.ensures ∙ ap (λ (text : List ℕ). before ++ quoted text) c.as_bytes.ensures.value) c.push_side.ensures
