use Rattle.std.proofs.Common.{ℕ, ◌∷◌, ◌∙◌, Option, subst}
use Rattle.amo_archive.specs.Records.{Follows}
use Rattle.amo_archive.proofs.Reading.{one_more}
use Rattle.amo_archive.proofs.gets.read_gets.Goals as goal

pub loop-alloc-preserved : goal.loop-alloc-preserved
loop-alloc-preserved c =
    let (past, begins, tells) = c.loop-alloc.invariant.read in
    let here = rw c.in-Some.is at c.in_ok-line.ensures in
    record {
      version = here.2 ∙ c.loop-alloc.invariant.version;
      read = (
        c.in-Some.line ∷ past,
        one_more c.args.lines.version past c.loop-alloc.rest.text.now c.in-Some.more.text.now c.args.lines.text.now c.in-Some.line (rw c.loop-alloc.invariant.version at here.0)
            (subst (λ (last : Option ℕ). Follows last c.in-Some.line.number) tells.next here.3) here.1 begins,
        c.in_ok-take.ensures past tells,
      );
    }
