use Rattle.amo_telling.proofs.Tallies.{open_decides, settled_decides}
use Rattle.amo_telling.proofs.untold.Untold.is_settled_by_now.Goals as goal

pub returns-then-tallies-stream : goal.returns-then-tallies-stream
returns-then-tallies-stream c = λ doubts are past follows. open_decides c.args.self.now doubts c.args.tallies.now c.args.stream c.requires.stream are past follows c.if-tallies-stream.true

pub returns : goal.returns
returns c = λ doubts are past follows. settled_decides c.args.self.now doubts c.args.tallies.now c.args.stream c.requires.stream are past follows c.if-tallies-stream.false
