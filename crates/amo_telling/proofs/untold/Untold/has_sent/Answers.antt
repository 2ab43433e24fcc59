use Rattle.std.proofs.Common.{arith}
use Rattle.amo_telling.proofs.Tallies.{sent_by_kept, sent_by_mark}
use Rattle.amo_telling.proofs.untold.Untold.has_sent.Goals as goal

pub returns-then-tallies-place : goal.returns-then-tallies-place
returns-then-tallies-place c = λ doubts are next past have right.
    sent_by_kept c.args.self.now doubts c.args.tallies.now c.args.stream (omega (arith, c.if-stream-eq0.false), omega (arith, c.if-stream-gt-STREAMS.false)) are next past have right c.if-tallies-place.true

pub returns-else-tallies-place : goal.returns-else-tallies-place
returns-else-tallies-place c = λ doubts are next past have right.
    sent_by_mark c.args.self.now doubts c.args.tallies.now c.args.stream (omega (arith, c.if-stream-eq0.false), omega (arith, c.if-stream-gt-STREAMS.false)) are next past have right c.if-tallies-place.false
