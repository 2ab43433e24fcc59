use Rattle.amo_audit.specs.Explanation.{run_text}
use Rattle.amo_audit.proofs.Pieces.{HasAppended}
use Rattle.amo_audit.proofs.explaining.push_runs.Given as goal

-- the lines of the runs before this one were appended
abbrev pub invariant-loop-place : goal.invariant-loop-place
invariant-loop-place l = HasAppended run_text l.initial.text.items l.runs l.text.items l.place
