use Rattle.amo_audit.proofs.judged_lines.has_end.Goals as goal

pub returns-in-Some-clause-some : goal.returns-in-Some-clause-some
returns-in-Some-clause-some c = λ is. (_, _, c.in-Some.ensures.found.0, c.in-Some.ensures.found.1)
