use Rattle.std.proofs.Common.{◌≡◌, ◌+◌, ◌∷◌, [], List, Vec, Global, length, map, sym, subst, arith}
use Rattle.std.proofs.lemmas.List.{map-append}
use Rattle.amo_outcomes.specs.declared.outcome.Outcome.{Outcome}
use Rattle.amo_telling.specs.declared.put_outcome.PutOutcome.{PutOutcome}
use Rattle.amo_telling.specs.Told.{AreToldFurther, StreamsToldFurther}
use Rattle.amo_telling.proofs.GoingOn.{one_stream_further, outcomes_there}
use Rattle.amo_telling.proofs.further.told_further.Goals as goal

-- the lists that vectors are
abbrev outcomes_of : Vec Outcome Global → List Outcome
outcomes_of told = told.items

abbrev told_by : Vec PutOutcome Global → List PutOutcome
told_by told = told.items

pub loop-place-preserved : goal.loop-place-preserved
loop-place-preserved c = λ past follows.
    let all = map outcomes_of c.args.all.now in
    let place = c.loop-place.place in
    let told = c.in_ok-told_of_stream.field-0 in
    subst (λ (listed : List (Vec PutOutcome Global)). StreamsToldFurther past all (place + 1) (map told_by listed)) (sym c.in_ok-push.ensures.items)
    (subst (StreamsToldFurther past all (place + 1)) (sym (map-append told_by c.loop-place.listed.items (told ∷ [])))
    (one_stream_further past all place (map told_by c.loop-place.listed.items) c.index-all-place.result.items told.items (c.loop-place.invariant past follows)
    (outcomes_there c.args.all.now place c.index-all-place.result (omega (arith, c.loop-place-test.true, c.requires)) c.index-all-place.is)
    (subst (λ (outcomes : List Outcome). AreToldFurther past (place + 1) outcomes (length outcomes) told.items) c.as_slice-outcomes.ensures.value (c.in_ok-told_of_stream.ensures past follows))))

pub returns : goal.returns
returns c = λ past follows.
    let all : c.loop-place.place ≡ 256 = omega (arith, c.loop-place-test.false, c.loop-place.auto.place-end) in
    subst (λ many. StreamsToldFurther past (map outcomes_of c.args.all.now) many (map told_by c.loop-place.listed.items)) all (c.loop-place.invariant past follows)
