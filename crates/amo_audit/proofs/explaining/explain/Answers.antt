use Rattle.std.proofs.Common.{◌≡◌, ℕ, [], refl, sym, ◌∙◌, ap, subst, arith, rules}
use Rattle.amo_journal.proofs.Further.{one_before}
use Rattle.amo_text.proofs.Written.{Appends-nil}
use Rattle.amo_audit.specs.declared.verdict.Verdict.{Verdict}
use Rattle.amo_audit.specs.declared.verdict.Verdict.TheVariants as verdict
use Rattle.amo_audit.specs.Audit.{further}
use Rattle.amo_audit.specs.Explanation.{ExplainsIf}
use Rattle.amo_audit.proofs.Explained.{not_explained, still_no_memory}
use Rattle.amo_audit.proofs.Named.{judged_within}
use Rattle.amo_audit.proofs.explaining.explain.Goals as goal

pub further-requires : goal.further-requires
further-requires g c =
    let within = judged_within c.open-lines.result c.in-Err.verdict c.in-Err.ensures.judged.0 in
    omega (arith, within, one_before c.open-lines.result.version)

pub returns-in_ok-write_all-in-Ok-clause-judged : goal.returns-in_ok-write_all-in-Ok-clause-judged
returns-in_ok-write_all-in-Ok-clause-judged g c =
    (record { lines = c.open-lines.result; opens = c.open-lines.ensures; found = verdict.Yes; judged = c.in-Ok.ensures.good; is = refl }, λ e. cc)

pub returns-in-Err : goal.returns-in-Err
returns-in-Err g c =
    let other : c.in-Err.verdict ≡ verdict.NoMemory → ⊥ = search rules in
    record {
      judged = (
        record {
          lines = c.open-lines.result;
          opens = c.open-lines.ensures;
          found = c.in-Err.verdict;
          judged = c.in-Err.ensures.judged.0;
          is = c.further.ensures ∙ ap (λ (n : ℕ). further n c.in-Err.verdict) c.lines_before.ensures;
        },
        λ e. other (still_no_memory c.lines_before.result c.in-Err.verdict (sym c.further.ensures ∙ e)),
      );
      explained = (
        [],
        subst (λ (v : Verdict). ExplainsIf v c.args.bytes.now []) (sym c.further.ensures) (not_explained c.args.bytes.now c.lines_before.result c.in-Err.verdict c.in-Err.ensures.judged.1),
        Appends-nil _,
      );
      begun = tt;
      refused = λ e. cc;
      faults = tt;
      device = ((λ e. cc), λ less. absurd (omega (arith, less)));
    }
