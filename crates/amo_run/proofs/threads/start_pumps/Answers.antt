use Rattle.std.proofs.Common.{reverse}
use Rattle.amo_run.specs.declared.work.PumpJob.{PumpJob}
use Rattle.amo_run.specs.Crew.{lent}
use Rattle.amo_run.proofs.Crews.{all_lent}
use Rattle.amo_run.proofs.threads.start_pumps.Goals as goal

pub returns-clause-lent : goal.returns-clause-lent
returns-clause-lent g c = all_lent (λ (j : PumpJob g.row.C.Denot). j.task.pump) c.pumps.jobs.items c.args.jobs.items (lent (reverse c.pumps.pumps.items)) c.in_default-last_job.ensures.none c.pumps.invariant.all
