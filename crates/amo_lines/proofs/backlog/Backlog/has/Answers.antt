use Rattle.std.proofs.Common.{◌≡◌, ◌<◌, ◌∙◌, suc, [], length, map, subst, sym, arith}
use Rattle.std.proofs.lemmas.Bool.{eqb-true}
use Rattle.std.proofs.lemmas.List.{length-map, nil_from_length}
use Rattle.amo_lines.specs.Backlog.{kept_on}
use Rattle.amo_lines.proofs.Backlogs.{none_in, not_no}
use Rattle.amo_lines.proofs.backlog.Backlog.has.Goals as goal

pub returns-in-Some : goal.returns-in-Some
returns-in-Some c = λ no.
    let xs = c.self.inside.streams.items in
    let place = c.in-Some.place in
    let few : place < length xs = omega (arith, subst (λ b. place < length b) (sym c.self.view_is) c.in-Some.ensures.some.0, length-map xs (λ q. q.items)) in
    let is : c.args.stream ≡ suc place = omega (arith, c.in-Some.ensures.some.1) in
    let zero_is = eqb-true _ 0 (sym c.is_empty.ensures ∙ not_no c.is_empty.result no) in
    let none = nil_from_length c.index.result.now.items (omega (arith, zero_is, c.index.result.now.ok.0)) in
    let here : kept_on (suc place) (map (λ q. q.items) xs) ≡ [] = none_in (λ q. q.items) xs place c.index.result.now c.index.result.now few c.index.ensures none in
    subst (λ b. kept_on c.args.stream b ≡ []) c.self.view_is (subst (λ s. kept_on s (map (λ q. q.items) xs) ≡ []) (sym is) here)
