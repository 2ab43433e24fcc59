use Rattle.std.proofs.Common.{◌≡◌, ◌<◌, ◌++◌, suc, length, map, slice_set, subst, sym, arith}
use Rattle.std.proofs.lemmas.List.{length-map}
use Rattle.amo_lines.specs.Backlog.{kept_on, message_on}
use Rattle.amo_lines.proofs.Backlogs.{backs_on}
use Rattle.amo_lines.proofs.backlog.Backlog.put_back.Goals as goal

pub returns : goal.returns
returns c = λ at.
    let xs = c.self.inside.streams.items in
    let place = c.in-Some.place in
    let old = c.index_mut.result.now in
    let new = c.push_front.new.self in
    let few : place < length xs = omega (arith, subst (λ b. place < length b) (sym c.self.view_is) c.in-Some.ensures.some.0, length-map xs (λ q. q.items)) in
    let is : c.args.stream ≡ suc place = omega (arith, c.in-Some.ensures.some.1) in
    let made = backs_on (λ q. q.items) xs place old new few c.index_mut.ensures.value c.args.message c.in_ok-push_front.ensures.items at in
    subst (λ b. kept_on at (map (λ q. q.items) (slice_set xs place new)) ≡ message_on at (c.args.stream, c.args.message) ++ kept_on at b) c.self.view_is
    (subst (λ s. kept_on at (map (λ q. q.items) (slice_set xs place new)) ≡ message_on at (s, c.args.message) ++ kept_on at (map (λ q. q.items) xs)) (sym is) made)
