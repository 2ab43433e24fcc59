use Rattle.std.proofs.Common.{ℕ, ◌+◌, ◌<◌, ◌≤◌, ◌^◌, length}
use Rattle.amo_call.specs.Pages.{MeasuresNext}
use Rattle.amo_call.proofs.pages.read_next_line.Given as goal

-- what is left tells what the whole does
abbrev pub invariant-lines : goal.invariant-lines
invariant-lines l =
    ((line : ℕ) → MeasuresNext line l.rest → MeasuresNext line l.response.body.items)
    × (((line : ℕ) → line < 2 ^ 64 → MeasuresNext line l.response.body.items → MeasuresNext line l.rest)
    × (length l.rest + l._line ≤ length l.response.body.items))
