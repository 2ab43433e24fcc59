use Rattle.amo_audit.proofs.Judged.{merged_soundly}
use Rattle.amo_audit.proofs.Beginnings.{InWorld, not_all_merge}
use Rattle.amo_audit.proofs.judging.judge_merged.Goals as goal

pub returns-in-Whole : goal.returns-in-Whole
returns-in-Whole c = merged_soundly c.args.first c.args.second c.in-Whole.field-0 (rw c.in-Whole.is at c.in_ok-merge_into.ensures)

pub returns-in-Early : goal.returns-in-Early
returns-in-Early c = not_all_merge InWorld (Unit {0}) c.args.first c.args.second _ c.in_ok-merge_into.ensures c.in-Early.is
