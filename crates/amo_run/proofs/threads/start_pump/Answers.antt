use Rattle.std.proofs.Common.{◌≡◌, sym, subst}
use Rattle.amo_book.specs.Book.{BookState}
use Rattle.amo_book.specs.Pass.{PassState}
use Rattle.amo_host.specs.Station.{Station}
use Rattle.amo_run.specs.declared.work.Pumped.{Pumped}
use Rattle.amo_run.specs.Crew.{Returned}
use Rattle.amo_run.proofs.threads.start_pump.Goals as goal

-- what comes back is what was promised of these
as_promised : {W : Type 0} (a b : BookState) (v w : PassState) (s t : Station W) (d : Pumped) → b ≡ a → w ≡ v → t ≡ s → Returned a v s d → Returned b w t d
as_promised {W = W} a b v w s t d book pass pump h = subst (λ (x : BookState). Returned x w t d) (sym book) (subst (λ (x : PassState). Returned a x t d) (sym pass) (subst (λ (x : Station W). Returned a v x d) (sym pump) h))

pub spawn_with-thread-requires-clause-keeps : goal.spawn_with-thread-requires-clause-keeps
spawn_with-thread-requires-clause-keeps g c κs within = λ r kept. as_promised c.args.place.book.now c.of.result.value c.args.pass c.of-2.result.value c.args.job.task.pump c.of-3.result.value r c.of.ensures c.of-2.ensures c.of-3.ensures kept
