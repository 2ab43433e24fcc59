use Rattle.std.specs.Fmt.{decimal}
use Rattle.std.specs.Prelude.{codes}
use Rattle.amo_door.proofs.Appends.{two}
use Rattle.amo_door.proofs.json.push_streams.Goals as goal

pub returns : goal.returns
returns c =
    two c.push_decimal.result c.args.text.now.items (codes ",\"streams\":") (decimal c.args.streams) c.extend_from_slice.new.self.items c.push_decimal.new.text.items
    c.in_ok-extend_from_slice.ensures.items c.push_decimal.ensures.ok
