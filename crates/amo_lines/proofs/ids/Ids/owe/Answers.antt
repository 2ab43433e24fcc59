use Rattle.std.proofs.Common.{◌≡◌, ◌<◌, suc, length, map, slice_set, subst, sym, arith}
use Rattle.std.proofs.lemmas.List.{length-map}
use Rattle.amo_lines.specs.Owed.{owing}
use Rattle.amo_lines.proofs.Owing.{owes}
use Rattle.amo_lines.proofs.ids.Ids.owe.Goals as goal

pub returns : goal.returns
returns c =
    let xs = c.self.inside.streams.items in
    let place = c.in-Some.place in
    let old = c.index_mut.result.now in
    let new = c.push_back.new.self in
    let few : place < length xs = omega (arith, subst (λ b. place < length b) (sym c.self.view_is) c.in-Some.ensures.some.0, length-map xs (λ q. q.items)) in
    let is : c.args.stream ≡ suc place = omega (arith, c.in-Some.ensures.some.1) in
    let made = owes (λ q. q.items) xs place old new few c.index_mut.ensures.value c.args.id c.in_ok-push_back.ensures.items in
    subst (λ b. map (λ q. q.items) (slice_set xs place new) ≡ owing c.args.stream c.args.id b) c.self.view_is
    (subst (λ s. map (λ q. q.items) (slice_set xs place new) ≡ owing s c.args.id (map (λ q. q.items) xs)) (sym is) made)
