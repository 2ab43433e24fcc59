use Rattle.amo_run.proofs.Turning.{recorded_more}
use Rattle.amo_run.proofs.engine.Engine+L+ChaChaWords.work.Goals as goal

pub returns-in_err-follow_plan : goal.returns-in_err-follow_plan
returns-in_err-follow_plan g c = recorded_more c.args.place.book.now c.args.self.now.pump c.turn.new.self.pump c.follow_plan.new.self.pump c.args.pass.now c.turn.new.pass c.follow_plan.new.pass
    c.args.tally.now.made.items c.turn.new.tally.made.items c.follow_plan.new.tally.made.items
    (recorded_more c.args.place.book.now c.args.self.now.pump c.turns.self.pump c.turn.new.self.pump c.args.pass.now c.turns.pass c.turn.new.pass
    c.args.tally.now.made.items c.turns.tally.made.items c.turn.new.tally.made.items c.turns.invariant c.turn.ensures.recorded)
    c.follow_plan.ensures
