use Rattle.amo_resolve.proofs.Telling.{IsTold}
use Rattle.amo_resolve.proofs.tell.tell.Given as goal

abbrev pub invariant-loop-place : goal.invariant-loop-place
invariant-loop-place l = IsTold l.calls l.got l.told.draft l.told.queue l.later.items l.place
