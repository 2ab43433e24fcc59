use Rattle.amo_live.proofs.Opens.{sides_step}
use Rattle.amo_live.proofs.host.sides_of.Goals as goal

pub streams-preserved : goal.streams-preserved
streams-preserved c = sides_step c.streams.sides.items c.push.new.self.items c.args.side c.streams.index c.streams.invariant c.in_ok-push.ensures.items
