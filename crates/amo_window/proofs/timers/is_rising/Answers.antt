use Rattle.std.proofs.Common.{rules, ltb}
use Rattle.std.proofs.lemmas.List.Sorted.{answers_always}
use Rattle.amo_window.proofs.Rising.{rises-from_pairs}
use Rattle.amo_window.proofs.timers.is_rising.Goals as goal

-- the closure compares the two numbers
pub returns : goal.returns
returns c =
    let by_pairs = c.is_sorted_by.ensures.cases (λ x y. ltb x y) (answers_always _ _ _ (λ f a r g called. search rules)) in
    rises-from_pairs c.args.streams.now _ by_pairs
