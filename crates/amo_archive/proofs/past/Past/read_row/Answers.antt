use Rattle.std.proofs.Common.{ℕ, ◌∷◌, ◌++◌, ◌∙◌, Option, subst}
use Rattle.amo_archive.specs.Records.{Follows}
use Rattle.amo_archive.proofs.Reading.{follows_these, one_more}
use Rattle.amo_archive.proofs.past.Past.read_row.Goals as goal

pub loop-alloc-preserved-in_ok-take : goal.loop-alloc-preserved-in_ok-take
loop-alloc-preserved-in_ok-take c =
    record {
      version = (rw c.in-Some.is at c.in_ok-line.ensures).2 ∙ c.loop-alloc.invariant.version;
      read = λ past has.
          let so_far = c.loop-alloc.invariant.read past has in
          let here = rw c.in-Some.is at c.in_ok-line.ensures in
          record {
            more = c.in-Some.line ∷ so_far.more;
            begins = one_more c.args.lines.version so_far.more c.loop-alloc.rest.text.now c.in-Some.more.text.now c.args.lines.text.now c.in-Some.line (rw c.loop-alloc.invariant.version at here.0)
                (follows_these so_far.more past c.in-Some.line.number (subst (λ (last : Option ℕ). Follows last c.in-Some.line.number) so_far.have.last here.3)) here.1 so_far.begins;
            have = c.in_ok-take.ensures (so_far.more ++ past) so_far.have;
          };
    }

pub loop-alloc-preserved-in_ok-take-2 : goal.loop-alloc-preserved-in_ok-take-2
loop-alloc-preserved-in_ok-take-2 c =
    record {
      version = (rw c.in-Some.is at c.in_ok-line.ensures).2 ∙ c.loop-alloc.invariant.version;
      read = λ past has.
          let so_far = c.loop-alloc.invariant.read past has in
          let here = rw c.in-Some.is at c.in_ok-line.ensures in
          record {
            more = c.in-Some.line ∷ so_far.more;
            begins = one_more c.args.lines.version so_far.more c.loop-alloc.rest.text.now c.in-Some.more.text.now c.args.lines.text.now c.in-Some.line (rw c.loop-alloc.invariant.version at here.0)
                (follows_these so_far.more past c.in-Some.line.number (subst (λ (last : Option ℕ). Follows last c.in-Some.line.number) so_far.have.last here.3)) here.1 so_far.begins;
            have = c.in_ok-take.ensures (so_far.more ++ past) so_far.have;
          };
    }

pub loop-alloc-preserved : goal.loop-alloc-preserved
loop-alloc-preserved c =
    record {
      version = (rw c.in-Some.is at c.in_ok-line.ensures).2 ∙ c.loop-alloc.invariant.version;
      read = λ past has.
          let so_far = c.loop-alloc.invariant.read past has in
          let here = rw c.in-Some.is at c.in_ok-line.ensures in
          record {
            more = c.in-Some.line ∷ so_far.more;
            begins = one_more c.args.lines.version so_far.more c.loop-alloc.rest.text.now c.in-Some.more.text.now c.args.lines.text.now c.in-Some.line (rw c.loop-alloc.invariant.version at here.0)
                (follows_these so_far.more past c.in-Some.line.number (subst (λ (last : Option ℕ). Follows last c.in-Some.line.number) so_far.have.last here.3)) here.1 so_far.begins;
            have = c.in_ok-take.ensures (so_far.more ++ past) so_far.have;
          };
    }
