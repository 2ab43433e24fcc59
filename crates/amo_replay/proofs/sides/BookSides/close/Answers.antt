use Rattle.std.proofs.Common.{sym}
use Rattle.amo_replay.proofs.Owning.{passes_belong, charges_belong, none_lacks, own_at_close}
use Rattle.amo_replay.proofs.sides.BookSides.close.Goals as goal

pub close-requires-clause-passes : goal.close-requires-clause-passes
close-requires-clause-passes c = passes_belong _ _ _ c.self.invariant

pub close-requires-clause-charges : goal.close-requires-clause-charges
close-requires-clause-charges c = charges_belong _ _ _ c.self.invariant

pub unreachable-requires : goal.unreachable-requires
unreachable-requires c = c.in_default.ensures.missing.0 (none_lacks _ _ _ c.self.invariant)

pub returns : goal.returns
returns c = rw (sym c.self.view_is) (own_at_close _ _ _ _ c.self.invariant c.in-Ok.ensures.closed.0)
