use Rattle.amo_audit.proofs.Judged.{told_streams}
use Rattle.amo_audit.proofs.Steps.{untrue}
use Rattle.amo_audit.proofs.judging.check_apart.Goals as goal

pub returns-then-meets-clause-judged : goal.returns-then-meets-clause-judged
returns-then-meets-clause-judged c =
    let (x, p, marks) = c.in-Ok.ensures.marks in
    let (y, q, marks') = c.in-Ok-sides_of.ensures.marks in
    ((x, y, p, q, (c.meets.ensures x y marks marks' (told_streams c.args.first x p) (told_streams c.args.second y q)).0 c.if-meets.true), λ e. cc)

pub returns-clause-apart : goal.returns-clause-apart
returns-clause-apart c =
    let (x, p, marks) = c.in-Ok.ensures.marks in
    let (y, q, marks') = c.in-Ok-sides_of.ensures.marks in
    (x, y, p, q, λ shares. untrue _ c.if-meets.false ((c.meets.ensures x y marks marks' (told_streams c.args.first x p) (told_streams c.args.second y q)).1 shares))

pub returns-then-meets-clause-not_merged : goal.returns-then-meets-clause-not_merged
returns-then-meets-clause-not_merged c = (returns-then-meets-clause-judged c).0
