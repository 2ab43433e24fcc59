use Rattle.amo_run.specs.declared.work.PumpJob.{PumpJob}
use Rattle.amo_run.proofs.Backs.{ends}
use Rattle.amo_run.proofs.two_books.both_at_once.Goals as goal

pub settle-requires-clause-ends : goal.settle-requires-clause-ends
settle-requires-clause-ends g c = ends c.args.one.roster c.args.version (λ (j : PumpJob g.row.C.Denot). j.task.pump) c.args.one.book c.args.one.hands.jobs.items c.in_ok-home.home c.requires.one.all c.requires.one.hands.ours c.in_ok-home.ensures.one

pub settle-requires-2-clause-ends : goal.settle-requires-2-clause-ends
settle-requires-2-clause-ends g c = ends c.args.other.roster c.args.version (λ (j : PumpJob g.row.C.Denot). j.task.pump) c.args.other.book c.args.other.hands.jobs.items c.in_ok-home.other_home c.requires.other.all c.requires.other.hands.ours c.in_ok-home.ensures.other
