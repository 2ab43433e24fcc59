use Rattle.std.proofs.Common.{rules, ltb}
use Rattle.std.proofs.lemmas.List.Sorted.{answers_always}
use Rattle.amo_host.proofs.ChargeLemmas.{rises_by}
use Rattle.amo_host.proofs.charges.are_rising.Goals as goal

-- the closure compares the two streams
pub returns : goal.returns
returns c =
    let by_pairs = c.is_sorted_by.ensures.cases (λ x y. ltb x.stream y.stream) (answers_always _ _ _ (λ f a r g called. search rules)) in
    rises_by (λ x. x.stream) c.args.charges.now _ by_pairs
