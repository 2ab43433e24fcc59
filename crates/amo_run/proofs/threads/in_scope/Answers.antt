use Rattle.std.proofs.Common.{◌≡◌, ◌++◌, [], length, reverse, ap, ◌∙◌, arith}
use Rattle.amo_run.specs.Engine.{ties}
use Rattle.amo_run.specs.Crew.{lent}
use Rattle.amo_run.proofs.threads.in_scope.Goals as goal

pub returns : goal.returns
returns g c =
    let given = c.requires.passes.1 in let pumps = c.in_ok-pumps.ensures.count.1 in let clients = c.in_ok-clients.ensures.count.1 in
    let left = ap (λ v. length v.items) c.home_of-home.ensures.passes in let some = c.join_clients-home.ensures.count in let whole = c.join_pumps.ensures.count in
    let empty : c.join_clients-home.result.charges.items ≡ [] = ap (λ v. v.items) c.join_clients-home.ensures.charges ∙ c.home_of-home.ensures.charges in
    record {
      sofar = c.join_pumps.ensures.so_far;
      count = omega arith;
      charges_are = λ l. c.join_pumps.ensures.charges l ∙ ap ties (ap (λ x. x ++ lent (reverse c.in_ok-pumps.pumps.items)) empty ∙ c.in_ok-pumps.ensures.lent);
    }
