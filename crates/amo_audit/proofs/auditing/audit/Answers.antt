use Rattle.std.proofs.Common.{arith}
use Rattle.amo_journal.proofs.Further.{one_before}
use Rattle.amo_audit.proofs.Good.{good, good_file}
use Rattle.amo_audit.proofs.Named.{judged_within}
use Rattle.amo_audit.proofs.auditing.audit.Goals as goal

pub further-requires : goal.further-requires
further-requires c =
    let within = judged_within c.open-lines.result c.audit_lines.result c.audit_lines.ensures in
    omega (arith, within, one_before c.open-lines.result.version)

pub returns-clause-complete : goal.returns-clause-complete
returns-clause-complete c = λ events journal sound.
    good_file _ _ _ c.further.ensures (good c.args.bytes.now c.open-lines.result c.audit_lines.result c.open-lines.ensures c.audit_lines.ensures events journal sound)
