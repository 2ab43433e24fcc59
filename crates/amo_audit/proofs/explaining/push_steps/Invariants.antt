use Rattle.amo_audit.specs.Explanation.{step_line}
use Rattle.amo_audit.proofs.Pieces.{HasAppended}
use Rattle.amo_audit.proofs.explaining.push_steps.Given as goal

-- the lines of the steps before this one were appended
abbrev pub invariant-loop-place : goal.invariant-loop-place
invariant-loop-place l = HasAppended (step_line l.stream) l.initial.text.items l.steps l.text.items l.place
