use Rattle.std.proofs.Common.{◌≡◌, ◌+◌, ◌≤◌, [], IfNone, length, subst, sym, arith}
use Rattle.amo_lines.specs.Backlog.{kept_on}
use Rattle.amo_lines.proofs.Backlogs.{no_stream, none_beyond}
use Rattle.amo_lines.proofs.backlog.Backlog.place_of.Goals as goal

pub returns-in_err-place-clause-none : goal.returns-in_err-place-clause-none
returns-in_err-place-clause-none c =
    subst (λ r. IfNone r (kept_on c.args.stream c.args.self.now ≡ [])) (sym c.from_residual.ensures) (no_stream c.args.stream c.args.self.now c.in_err-place.ensures)

pub returns-else-place-len-clause-none : goal.returns-else-place-len-clause-none
returns-else-place-len-clause-none c =
    let far : length c.self.inside.streams.items ≤ c.in_ok-place.place = omega (arith, c.if-place-len.false, c.len.ensures, c.self.inside.streams.ok.0) in
    let is : c.args.stream ≡ c.in_ok-place.place + 1 = omega (arith, c.in_ok-place.ensures.0, c.in_ok-place.ensures.1) in
    subst (λ b. kept_on c.args.stream b ≡ []) c.self.view_is (none_beyond (λ q. q.items) c.self.inside.streams.items c.in_ok-place.place c.args.stream far is)
