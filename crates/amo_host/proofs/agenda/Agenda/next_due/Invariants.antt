use Rattle.amo_host.proofs.AtStreamLemmas.{IsEarliest}
use Rattle.amo_host.proofs.agenda.Agenda.next_due.Given as goal

-- the earliest time of the sides that were looked at
abbrev pub invariant-loop-place : goal.invariant-loop-place
invariant-loop-place l = IsEarliest l.self l.place l.least
