use Rattle.amo_audit.proofs.marking.shares_side.Goals as goal

pub returns : goal.returns
returns c = c.meets.ensures c.args.first.now c.args.second.now c.of.ensures c.of-2.ensures c.requires.first c.requires.second
