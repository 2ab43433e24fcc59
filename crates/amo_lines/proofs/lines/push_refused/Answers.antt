use Rattle.std.proofs.Common.{codes}
use Rattle.std.specs.List.{flat_map}
use Rattle.amo_lines.specs.Spelt.{escaped, refused_front}
use Rattle.amo_lines.proofs.Owing.{four_parts}
use Rattle.amo_lines.proofs.lines.push_refused.Goals as goal

pub returns : goal.returns
returns c =
    four_parts c.args.shown.now.items c.push_refused_front.new.shown.items c.extend_from_slice.new.self.items c.push_escaped.new.shown.items c.extend_from_slice-2.new.self.items
    (refused_front c.args.line c.args.id.now) (codes ",\"event\":\"refused\",\"reason\":\"") (flat_map escaped c.args.reason.now) (codes "\"}\n")
    c.in_ok-push_refused_front.ensures c.in_ok-extend_from_slice.ensures.items c.in_ok-push_escaped.ensures c.in_ok-extend_from_slice-2.ensures.items
