use Rattle.amo_door.specs.Json.{escaped}
use Rattle.amo_door.proofs.Appends.{each_all, each_more}
use Rattle.amo_door.proofs.json.push_escaped.Goals as goal

pub loop-byte-preserved : goal.loop-byte-preserved
loop-byte-preserved c = each_more escaped c.args.shown.now.items _ _ c.args.text.now c.loop-byte.byte-index _ c.loop-byte-test.true c.loop-byte.invariant c.in_ok-push_byte.ensures

pub returns : goal.returns
returns c = each_all escaped c.args.shown.now.items _ c.args.text.now c.loop-byte.byte-index c.loop-byte-test.false c.loop-byte.invariant
