use Rattle.std.proofs.Common.{◌≡◌, ◌<◌, [], None, suc, length, map, slice_set, subst, sym, ◌∙◌, arith}
use Rattle.std.proofs.lemmas.List.{length-map, nil_from_length}
use Rattle.amo_lines.specs.Owed.{answered, first_id}
use Rattle.amo_lines.proofs.Owing.{first_is, first_none, none_answered, none_first, rest_is, rest_none}
use Rattle.amo_lines.proofs.ids.Ids.answer.Goals as goal

pub returns-in_default-clause-id : goal.returns-in_default-clause-id
returns-in_default-clause-id c = c.none.ensures ∙ none_first c.args.stream c.args.self.now c.in_default.ensures.none

pub returns-in_default-clause-rest : goal.returns-in_default-clause-rest
returns-in_default-clause-rest c = none_answered c.args.stream c.args.self.now c.in_default.ensures.none

pub returns-in_default-pop_front-clause-id : goal.returns-in_default-pop_front-clause-id
returns-in_default-pop_front-clause-id c =
    let xs = c.self.inside.streams.items in
    let place = c.in-Some.place in
    let old = c.index_mut.result.now in
    let new = c.pop_front.new.self in
    let few : place < length xs = omega (arith, subst (λ b. place < length b) (sym c.self.view_is) c.in-Some.ensures.some.0, length-map xs (λ q. q.items)) in
    let is : c.args.stream ≡ suc place = omega (arith, c.in-Some.ensures.some.1) in
    let none : old.items ≡ [] = nil_from_length old.items (omega (arith, c.in_default-pop_front.ensures.cases.0, old.ok.0)) in
    let made = first_none (λ q. q.items) xs place old new few c.index_mut.ensures.value none in
    c.none-in_default-pop_front.ensures ∙ subst (λ b. None ≡ first_id c.args.stream b) c.self.view_is (subst (λ s. None ≡ first_id s (map (λ q. q.items) xs)) (sym is) made)

pub returns-in_default-pop_front-clause-rest : goal.returns-in_default-pop_front-clause-rest
returns-in_default-pop_front-clause-rest c =
    let xs = c.self.inside.streams.items in
    let place = c.in-Some.place in
    let old = c.index_mut.result.now in
    let new = c.pop_front.new.self in
    let few : place < length xs = omega (arith, subst (λ b. place < length b) (sym c.self.view_is) c.in-Some.ensures.some.0, length-map xs (λ q. q.items)) in
    let is : c.args.stream ≡ suc place = omega (arith, c.in-Some.ensures.some.1) in
    let none : old.items ≡ [] = nil_from_length old.items (omega (arith, c.in_default-pop_front.ensures.cases.0, old.ok.0)) in
    let made = rest_none (λ q. q.items) xs place old new few c.index_mut.ensures.value none (sym c.in_default-pop_front.ensures.items) in
    subst (λ b. map (λ q. q.items) (slice_set xs place new) ≡ answered c.args.stream b) c.self.view_is
    (subst (λ s. map (λ q. q.items) (slice_set xs place new) ≡ answered s (map (λ q. q.items) xs)) (sym is) made)

pub returns-clause-id : goal.returns-clause-id
returns-clause-id c =
    let xs = c.self.inside.streams.items in
    let place = c.in-Some.place in
    let old = c.index_mut.result.now in
    let new = c.pop_front.new.self in
    let few : place < length xs = omega (arith, subst (λ b. place < length b) (sym c.self.view_is) c.in-Some.ensures.some.0, length-map xs (λ q. q.items)) in
    let is : c.args.stream ≡ suc place = omega (arith, c.in-Some.ensures.some.1) in
    let made = first_is (λ q. q.items) xs place old new few c.index_mut.ensures.value c.in-Some-pop_front.id c.in-Some-pop_front.ensures.items in
    subst (λ b. c.in-Some-pop_front.id ≡ first_id c.args.stream b) c.self.view_is (subst (λ s. c.in-Some-pop_front.id ≡ first_id s (map (λ q. q.items) xs)) (sym is) made)

pub returns-clause-rest : goal.returns-clause-rest
returns-clause-rest c =
    let xs = c.self.inside.streams.items in
    let place = c.in-Some.place in
    let old = c.index_mut.result.now in
    let new = c.pop_front.new.self in
    let few : place < length xs = omega (arith, subst (λ b. place < length b) (sym c.self.view_is) c.in-Some.ensures.some.0, length-map xs (λ q. q.items)) in
    let is : c.args.stream ≡ suc place = omega (arith, c.in-Some.ensures.some.1) in
    let made = rest_is (λ q. q.items) xs place old new few c.index_mut.ensures.value c.in-Some-pop_front.id c.in-Some-pop_front.ensures.items in
    subst (λ b. map (λ q. q.items) (slice_set xs place new) ≡ answered c.args.stream b) c.self.view_is
    (subst (λ s. map (λ q. q.items) (slice_set xs place new) ≡ answered s (map (λ q. q.items) xs)) (sym is) made)
