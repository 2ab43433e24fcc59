use Rattle.std.proofs.Common.{◌+◌, length, arith}
use Rattle.amo_disk.proofs.Parts.{within_part}
use Rattle.amo_disk.proofs.newest.part_within.Goals as goal

pub returns-then-bytes-place-eq10-clause-within : goal.returns-then-bytes-place-eq10-clause-within
returns-then-bytes-place-eq10-clause-within c =
    within_part c.args.bytes.now c.args.size c.args.limit c.saturating_sub-first.result (c.loop-place.place + 1) (omega (arith, c.saturating_sub.ensures, c.saturating_sub-first.ensures)) (omega (arith, c.loop-place-test.true))
    (λ k from before. c.loop-place.invariant k from (omega (arith, before)))

pub returns-clause-within : goal.returns-clause-within
returns-clause-within c =
    within_part c.args.bytes.now c.args.size c.args.limit c.saturating_sub-first.result (length c.args.bytes.now) (omega (arith, c.saturating_sub.ensures, c.saturating_sub-first.ensures)) (omega arith)
    (λ k from before. c.loop-place.invariant k from (omega (arith, before, c.loop-place-test.false)))
