use Rattle.std.proofs.Common.{◌≡◌, List, [], ◌∷◌, ◌++◌, ◌+◌, length, map, Option, Some, None, IfSome, subst, ap, ◌∙◌}
use Rattle.std.specs.Option.{option_to_list}
use Rattle.std.proofs.lemmas.List.{length-append}
use Rattle.amo_book.specs.Book.{BookState, Each}
use Rattle.amo_journal.specs.declared.version.Version.{Version}
use Rattle.amo_run.specs.Crew.{IsOurs, dealt}
use Rattle.amo_run.specs.declared.work.PumpJob.{PumpJob}
use Rattle.amo_run.proofs.Crews.{each_less, dealt_more}
use Rattle.amo_run.proofs.threads.last_job.Goals as goal

-- the last of these jobs, and the pumps of those before it
last_of : {C : Type 0} (version : Version) (b : BookState) (old new : List (PumpJob C)) (o : Option (PumpJob C)) → old ≡ new ++ option_to_list o → Each (λ j. IsOurs version b j.task.pump) old
    → IfSome o (λ j. IsOurs version b j.task.pump × (dealt (map (λ k. k.task.pump) old) ≡ dealt (map (λ k. k.task.pump) new) ++ j.task.pump.charges) × (length old ≡ length new + 1))
last_of version b old new None is h = tt
last_of version b old new (Some j) is h = (
  (each_less (λ k. IsOurs version b k.task.pump) new j (subst (Each (λ k. IsOurs version b k.task.pump)) is h)).1,
  ap (λ l. dealt (map (λ k. k.task.pump) l)) is ∙ dealt_more (λ k. k.task.pump) new j,
  ap length is ∙ length-append new (j ∷ []),
)

pub returns-clause-last : goal.returns-clause-last
returns-clause-last g c = last_of c.args.version c.args.book.now c.args.jobs.now.items c.pop.new.self.items c.pop.result c.pop.ensures.items c.requires.ours
