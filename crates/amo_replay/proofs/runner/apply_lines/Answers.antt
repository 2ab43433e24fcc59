use Rattle.std.proofs.Common.{◌∙◌}
use Rattle.std.proofs.lemmas.Result.{err_from_is_err_and}
use Rattle.amo_replay.proofs.Replays.{replayed_more, stopped_at_line, stopped_between, done_at_end}
use Rattle.amo_replay.proofs.runner.apply_lines.Goals as goal

pub returns-in_err-line-clause-stopped : goal.returns-in_err-line-clause-stopped
returns-in_err-line-clause-stopped g c =
    let p = err_from_is_err_and c.from_residual.result c.from_residual.ensures.1 in
    rw (p.1, p.2) (λ own lines spelt. (
      stopped_between _ _ _ _ _ (c.loop-page.invariant.to own) (rw c.in_err-line.ensures.refused at c.in_err-line.ensures.left) lines spelt,
      c.loop-page.invariant.calm,
    ))

pub returns-in_err-replay_line-clause-stopped : goal.returns-in_err-replay_line-clause-stopped
returns-in_err-replay_line-clause-stopped g c =
    let p = err_from_is_err_and c.from_residual-in_err-replay_line.result c.from_residual-in_err-replay_line.ensures.1 in
    let line = rw c.in-Some.is at c.in_ok-line.ensures.line in
    rw (p.1, p.2) (λ own lines spelt.
    stopped_at_line _ _ _ _ _ _ _ _ _ _ _ _ (c.loop-page.invariant.to (c.in_err-replay_line.ensures.own own)) line.0 line.1 c.in_ok-line.ensures.left
    c.loop-page.invariant.calm (c.in_err-replay_line.ensures.stopped own) lines spelt)

pub loop-page-preserved : goal.loop-page-preserved
loop-page-preserved g c =
    let line = rw c.in-Some.is at c.in_ok-line.ensures.line in
    record {
      agree = c.in_ok-replay_line.ensures.agree;
      to = λ own.
          let written = c.in_ok-replay_line.ensures.applied own in
          replayed_more _ _ _ _ _ _ _ _ _ written.0 (c.loop-page.invariant.to (c.in_ok-replay_line.ensures.own own)) line.0 line.1 written.1 written.2 written.3;
      calm = c.in_ok-replay_line.ensures.calm ∙ c.loop-page.invariant.calm;
    }

pub returns-clause-done : goal.returns-clause-done
returns-clause-done g c =
    let end = rw c.in_default.is at c.in_ok-line.ensures.end in
    λ own. done_at_end _ _ _ _ _ (c.loop-page.invariant.to own) end.0
