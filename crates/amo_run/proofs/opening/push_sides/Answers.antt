use Rattle.amo_run.proofs.Openings.{sides_step}
use Rattle.amo_run.proofs.opening.push_sides.Goals as goal

pub streams-preserved : goal.streams-preserved
streams-preserved c = sides_step c.args.sides.now.items c.streams.sides.items c.push.new.self.items c.args.side c.streams.index c.streams.invariant c.in_ok-push.ensures.items
