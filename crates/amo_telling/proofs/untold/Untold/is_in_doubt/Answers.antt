use Rattle.amo_telling.proofs.Tallies.{names, not_named_decides, stays_decides, unsettled_decides}
use Rattle.amo_telling.proofs.untold.Untold.is_in_doubt.Goals as goal

pub returns-then-tallies-stream : goal.returns-then-tallies-stream
returns-then-tallies-stream c = λ doubts are next past have right.
    unsettled_decides c.args.self.now doubts c.args.tallies.now c.args.stream c.requires.stream are next past have right c.args.before.now c.if-tallies-stream.true

pub returns-then-contains : goal.returns-then-contains
returns-then-contains c = λ doubts are next past have right.
    stays_decides c.args.self.now doubts c.args.tallies.now c.args.stream c.requires.stream are next past have right c.args.before.now c.contains.result c.has_sent.result c.if-tallies-stream.false
    c.if-contains.true (names c.args.before.now c.args.stream c.contains.result c.contains.ensures.cases) (c.has_sent.ensures doubts are next past have right)

pub returns-else-contains : goal.returns-else-contains
returns-else-contains c = λ doubts are next past have right.
    not_named_decides c.args.self.now doubts c.args.tallies.now c.args.stream c.requires.stream are next past have right c.args.before.now c.contains.result c.if-tallies-stream.false
    c.if-contains.false (names c.args.before.now c.args.stream c.contains.result c.contains.ensures.cases)
