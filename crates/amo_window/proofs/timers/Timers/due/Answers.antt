use Rattle.std.proofs.Common.{arith}
use Rattle.std.proofs.lemmas.List.{length-map}
use Rattle.amo_window.specs.Timers.{unset, has_come}
use Rattle.amo_window.proofs.Rising.{rises-filter}
use Rattle.amo_window.proofs.TimersLemmas.{length-due}
use Rattle.amo_window.proofs.timers.Timers.due.Goals as goal

pub returns-clause-rising : goal.returns-clause-rising
returns-clause-rising c =
    rises-filter (λ t. t.stream) c.as_slice.result.now (unset 0) (λ t. has_come c.args.now t.next) (rw c.as_slice.ensures.value c.self.invariant.rising)

pub returns-clause-few : goal.returns-clause-few
returns-clause-few c =
    let items = c.self.inside.timers.items in
    rw c.as_slice.ensures.value (omega (arith, length-due c.args.now items, length-map items (λ t. t.stream), c.self.invariant.few))
