use Rattle.std.proofs.Common.{◌-◌, ap, arith, refl, set}
use Rattle.amo_telling.proofs.Untolds.{apart_numbers}
use Rattle.amo_telling.proofs.untold.Untold.keep.Goals as goal

pub returns-clause-kept : goal.returns-clause-kept
returns-clause-kept c = record {
  counts = λ few. ap (set c.args.self.now.counts (c.args.stream - 1)) (omega (arith, c.saturating_add.ensures, few));
  kept = (_, c.in_ok-insert.ensures.updates.1, refl, refl, c.in_ok-from_slice.ensures.items);
  others = λ other apart. c.in_ok-insert.ensures.updates.2 other (apart_numbers c.args.number other apart);
}
