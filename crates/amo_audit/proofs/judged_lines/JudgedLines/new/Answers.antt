use Rattle.std.proofs.Common.{refl}
use Rattle.amo_audit.proofs.Parts.{none_judged}
use Rattle.amo_audit.proofs.judged_lines.JudgedLines.new.Goals as goal

pub returns-clause-none : goal.returns-clause-none
returns-clause-none c = λ version body. none_judged _ version body refl refl c.in_ok-new.ensures
