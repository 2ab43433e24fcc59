use Rattle.std.proofs.Common.{map}
use Rattle.amo_run.specs.declared.work.PumpJob.{PumpJob}
use Rattle.amo_run.specs.Versions.{starting}
use Rattle.amo_run.proofs.Hosts.{kept, added, drivers, ours}
use Rattle.amo_run.proofs.host.push_host.Goals as goal

pub returns-in-Ok-push_pumps-clause-ours : goal.returns-in-Ok-push_pumps-clause-ours
returns-in-Ok-push_pumps-clause-ours g c = ours (λ (j : PumpJob g.row.C.Denot). j.task.pump) c.args.jobs.now.items c.push_pumps.new.jobs.items c.in-Ok-divide.pumps.items
    c.args.host.batch c.args.book.now c.args.charges.items 16 c.args.host.pumps c.in-Ok.words.items c.in-Ok-push_pumps.ensures c.in-Ok-divide.ensures.divided c.requires.host.ours c.requires.ours

pub returns-in-Ok-push_pumps-clause-drivers : goal.returns-in-Ok-push_pumps-clause-drivers
returns-in-Ok-push_pumps-clause-drivers g c = drivers (λ (j : PumpJob g.row.C.Denot). j.task.pump) c.args.jobs.now.items c.push_pumps.new.jobs.items c.in-Ok-divide.pumps.items
    c.args.host.batch c.args.host.part c.args.host.side c.args.charges.items 16 c.args.host.pumps c.in-Ok.words.items c.in-Ok-push_pumps.ensures c.in-Ok-divide.ensures.divided c.requires.host.streams c.requires.before c.requires.drivers

pub returns-in-Ok-push_pumps-clause-kept : goal.returns-in-Ok-push_pumps-clause-kept
returns-in-Ok-push_pumps-clause-kept g c = kept (λ (j : PumpJob g.row.C.Denot). j.task.pump) c.args.jobs.now.items c.push_pumps.new.jobs.items (map (starting c.args.host.batch) c.in-Ok-divide.pumps.items) c.in-Ok-push_pumps.ensures

pub returns-in-Ok-push_pumps-clause-added : goal.returns-in-Ok-push_pumps-clause-added
returns-in-Ok-push_pumps-clause-added g c = added (λ (j : PumpJob g.row.C.Denot). j.task.pump) c.args.jobs.now.items c.push_pumps.new.jobs.items c.in-Ok-divide.pumps.items
    c.args.host.batch c.args.charges.items 16 c.args.host.pumps c.in-Ok.words.items c.in-Ok-push_pumps.ensures c.in-Ok-divide.ensures.divided c.requires.pumps.0
