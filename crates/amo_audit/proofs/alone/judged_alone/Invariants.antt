use Rattle.std.proofs.Common.{take}
use Rattle.amo_audit.specs.Alone.{FindsAlone}
use Rattle.amo_audit.proofs.alone.judged_alone.Given as goal

-- the events so far were judged
abbrev pub invariant-loop-place : goal.invariant-loop-place
invariant-loop-place l = FindsAlone l.auditor.streams.items l.auditor.finding (take l.place l.events)
