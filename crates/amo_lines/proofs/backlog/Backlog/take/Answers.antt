use Rattle.std.proofs.Common.{◌≡◌, ◌<◌, ◌++◌, ◌∙◌, suc, IfNone, length, map, slice_set, ap, subst, sym, arith}
use Rattle.std.proofs.Math.Seq.{map-set_same}
use Rattle.std.proofs.lemmas.List.{length-map}
use Rattle.amo_lines.specs.Backlog.{kept_on, message_on}
use Rattle.amo_lines.proofs.Backlogs.{takes_on}
use Rattle.amo_lines.proofs.backlog.Backlog.take.Goals as goal

pub returns-in_err-message-clause-none : goal.returns-in_err-message-clause-none
returns-in_err-message-clause-none c =
    let xs = c.self.inside.streams.items in
    let place = c.in_ok-place.place in
    let same : map (λ q. q.items) (slice_set xs place c.pop_front.new.self) ≡ map (λ q. q.items) xs =
    map-set_same (λ q. q.items) xs place c.pop_front.new.self c.index_mut.result.now (sym c.in_err-message.ensures.items ∙ ap (λ q. q.items) c.index_mut.ensures.value) in
    subst (λ r. IfNone r (map (λ q. q.items) (slice_set xs place c.pop_front.new.self) ≡ c.args.self.now)) (sym c.from_residual-in_err-message.ensures) (same ∙ c.self.view_is)

pub returns-clause-some : goal.returns-clause-some
returns-clause-some c = λ at.
    let xs = c.self.inside.streams.items in
    let place = c.in_ok-place.place in
    let old = c.index_mut.result.now in
    let new = c.pop_front.new.self in
    let few : place < length xs = omega (arith, subst (λ b. place < length b) (sym c.self.view_is) c.in_ok-place.ensures.some.0, length-map xs (λ q. q.items)) in
    let is : c.args.stream ≡ suc place = omega (arith, c.in_ok-place.ensures.some.1) in
    let made = takes_on (λ q. q.items) xs place old new few c.index_mut.ensures.value c.in_ok-message.message c.in_ok-message.ensures.items at in
    subst (λ b. kept_on at b ≡ message_on at (c.args.stream, c.in_ok-message.message) ++ kept_on at (map (λ q. q.items) (slice_set xs place new))) c.self.view_is
    (subst (λ s. kept_on at (map (λ q. q.items) xs) ≡ message_on at (s, c.in_ok-message.message) ++ kept_on at (map (λ q. q.items) (slice_set xs place new))) (sym is) made)
