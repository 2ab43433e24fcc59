use Rattle.std.proofs.Common.{rules}
use Rattle.std.proofs.lemmas.List.Sorted.{answers_always}
use Rattle.amo_window.specs.Timers.{unset}
use Rattle.amo_window.proofs.Rising.{searched}
use Rattle.amo_window.proofs.timers.Timers.search.Goals as goal

-- the closure gives a timer's stream, and the slice is the list of timers
pub returns : goal.returns
returns c =
    let facts = c.binary_search_by_key.ensures in
    let by_stream = facts.position (λ timer. timer.stream) (answers_always _ _ _ (λ f a r g called. search rules)) in
    let ends = searched (λ timer. timer.stream) c.deref.result.now (rw c.deref.ensures.value c.self.invariant.rising) (unset 0) c.args.stream _ facts.bound by_stream in
    rw (← c.self.view_is, ← c.deref.ensures.value, c.ok.ensures.value) (record { found = ends.0; absent = ends.1 })
