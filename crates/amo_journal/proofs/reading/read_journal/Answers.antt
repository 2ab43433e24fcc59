use Rattle.std.proofs.Common.{arith}
use Rattle.amo_journal.proofs.Further.{fault_within, file_events, one_before}
use Rattle.amo_journal.proofs.Unambiguous.{one_journal}
use Rattle.amo_journal.proofs.reading.read_journal.Goals as goal

pub returns-in-Ok-clause-spelt : goal.returns-in-Ok-clause-spelt
returns-in-Ok-clause-spelt c = file_events _ _ c.args.bytes.now c.in-Ok.events.items c.open-lines.ensures c.in-Ok.ensures.spelt

pub returns-in-Ok-clause-only : goal.returns-in-Ok-clause-only
returns-in-Ok-clause-only c = λ others journal. one_journal c.args.bytes.now others c.in-Ok.events.items journal (file_events _ _ c.args.bytes.now c.in-Ok.events.items c.open-lines.ensures c.in-Ok.ensures.spelt)

pub further-requires : goal.further-requires
further-requires c =
    let within = fault_within _ _ c.in-Err.fault c.in-Err.ensures.fault in
    omega (arith, within, one_before c.open-lines.result.version)
