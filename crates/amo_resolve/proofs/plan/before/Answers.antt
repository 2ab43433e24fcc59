use Rattle.std.proofs.Common.{◌≡◌, ◌+◌, ◌≤◌, Bool, true, false, if◌then◌else◌, length, ℕ, arith}
use Rattle.amo_resolve.proofs.Bordering.{borders_after, borders_before, here_within}
use Rattle.amo_resolve.proofs.plan.before.Goals as goal

pub before-before-requires-clause-borders : goal.before-before-requires-clause-borders
before-before-requires-clause-borders c = (
  borders_after c.args.note.is_down c.args.got.now c.args.first c.args.ahead.here c.after-same.result.here c.fit.new.self.lengths.items
      c.in_ok-fit.ensures.borders c.in_ok-fit.ensures.length c.after-same.ensures.here,
  c.in_ok-fit.ensures.length,
)

pub returns-clause-ahead : goal.returns-clause-ahead
returns-clause-ahead c = λ calls notes from known noted.
    c.before-before.ensures.ahead calls notes c.args.note from (c.after-same.ensures.after calls notes known noted)

pub returns-clause-borders : goal.returns-clause-borders
returns-clause-borders c = (
  borders_before c.args.call.now c.args.got.now c.args.first c.after-same.result.here c.before-before.result.here c.fit-2.new.self.lengths.items
      c.requires.first c.in_ok-fit-2.ensures.borders c.in_ok-fit-2.ensures.length c.before-before.ensures.here,
  c.in_ok-fit-2.ensures.length,
)

pub fit-requires-2-clause-within : goal.fit-requires-2-clause-within
fit-requires-2-clause-within c =
    let most = here_within c.args.call.now c.args.first c.after-same.result.here c.requires.first in (
      omega (arith, c.in_ok-fit.ensures.length),
      omega (arith, c.in_ok-fit.ensures.length, most.0, c.before-before.ensures.here),
      omega (arith, most.1, c.before-before.ensures.here),
      within c.args.note.is_down c.args.first c.args.ahead.here c.after-same.result.here (length c.args.got.now) c.after-same.ensures.here c.requires.counts.1,
    )
  where
    within : (down : Bool) (first here next n : ℕ) → next ≡ (if down then 0 else here) → first + here ≤ n → first + next ≤ n
    within true first here next n is less = omega (arith, is, less)
    within false first here next n is less = omega (arith, is, less)

pub fit-requires-2-clause-borders : goal.fit-requires-2-clause-borders
fit-requires-2-clause-borders c =
    borders_after c.args.note.is_down c.args.got.now c.args.first c.args.ahead.here c.after-same.result.here c.fit.new.self.lengths.items
    c.in_ok-fit.ensures.borders c.in_ok-fit.ensures.length c.after-same.ensures.here
