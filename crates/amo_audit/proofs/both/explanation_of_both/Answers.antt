use Rattle.std.proofs.Common.{arith, refl}
use Rattle.amo_audit.specs.declared.judgement.Judgement.TheVariants.{Whole}
use Rattle.amo_audit.specs.declared.verdict.Verdict.TheVariants.{Yes}
use Rattle.amo_audit.proofs.Named.{found_within}
use Rattle.amo_audit.proofs.both.explanation_of_both.Goals as goal

pub counted-requires : goal.counted-requires
counted-requires c = found_within c.open-ours.result c.open-theirs.result (omega arith) (omega arith) c.in-Err.judgement c.in-Err.ensures.judged.0

pub returns-in-Ok-clause-good : goal.returns-in-Ok-clause-good
returns-in-Ok-clause-good c =
    record { ours = c.open-ours.result; theirs = c.open-theirs.result; opens = (c.open-ours.ensures, c.open-theirs.ensures); found = Whole Yes; judged = c.in-Ok.ensures.good; is = refl }
