use Rattle.std.proofs.Common.{◌≡◌, ℕ, ◌+◌, ◌*◌, sym, ap₂, ◌∙◌, subst, arith}
use Rattle.std.proofs.Math.Nat.{le-max_left}
use Rattle.amo_run.specs.declared.work.PumpJob.{PumpJob}
use Rattle.amo_run.specs.Crew.{EachAt, IsDriver}
use Rattle.amo_run.specs.Parts.{hosts_of, pumps_of}
use Rattle.amo_run.proofs.Crews.{new_passes}
use Rattle.amo_run.proofs.crew.muster.Goals as goal

pub returns-clause-ready : goal.returns-clause-ready
returns-clause-ready g c =
    let o = c.in_ok-book.ensures.opens in
    let product : c.hosts.result * c.pumps_of.result ≡ hosts_of c.args.part * pumps_of c.args.settings.now = ap₂ (λ a b. a * b) c.hosts.ensures c.pumps_of.ensures.count in
    let most = le-max_left (c.hosts.result * c.pumps_of.result + c.len.result) 2 in
    let count = c.in_ok-jobs.ensures.count in let chosen = c.max-count.ensures in let scripts = c.len.ensures in let same = c.len-2.ensures in let long = o.numbered_are.0 in let opened = o.passes_are in
    record {
      hands = record {
        passes = (new_passes c.in_ok-book.field-0.book _ c.in_ok-book.field-0.passes.items o.numbered_are, o.numbered_are.0 ∙ sym o.passes_are);
        clients = omega arith;
        pumps = omega arith;
        ours = c.in_ok-jobs.ensures.ours;
        drivers = subst (λ (pumps : ℕ). EachAt (λ n (j : PumpJob g.row.C.Denot). IsDriver c.args.part pumps n j.task.pump) 0 c.in_ok-jobs.jobs.items) (sym c.pumps_of-2.ensures.count) c.in_ok-jobs.ensures.drivers;
      };
      all = c.in_ok-jobs.ensures.all;
      lawful = c.in_ok-book.ensures.lawful;
    }
