use Rattle.std.proofs.Common.{Err, ap}
use Rattle.amo_book.specs.declared.fault.OpenFault.{OpenFault}
use Rattle.amo_replay.proofs.Places.{lawful}
use Rattle.amo_replay.proofs.Owning.{opened}
use Rattle.amo_replay.proofs.sides.BookSides.new.Goals as goal

pub invariant_of-result : goal.invariant_of-result
invariant_of-result c = opened _ _ _ _ c.in_ok-all_sides.ensures c.in-Ok.ensures.opened.1

pub unreachable-requires : goal.unreachable-requires
unreachable-requires c = c.in-Err-Limits.ensures.limits.0 (ap (λ (fault : OpenFault). Err fault) c.in-Err-Limits.field-0-is) (lawful _ c.in_ok-all_sides.ensures)
