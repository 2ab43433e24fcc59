use Rattle.std.proofs.Common.{◌∙◌, List, Vec, Global, map, refl, subst, sym}
use Rattle.std.proofs.lemmas.List.{length-map}
use Rattle.amo_audit.specs.declared.judgement.Judgement.TheVariants.{Whole}
use Rattle.amo_audit.specs.declared.verdict.Verdict.TheVariants.{NoMemory}
use Rattle.amo_lives.specs.declared.doubt.Span.{Span}
use Rattle.amo_outcomes.specs.declared.outcome.Outcome.{Outcome}
use Rattle.amo_telling.specs.Outcomes.{IsTelling, second_doubts}
use Rattle.amo_telling.proofs.Pairs.{all_streams, first_tells, second_tells, is_telling}
use Rattle.amo_telling.proofs.outcomes.text_of.Goals as goal

-- the list that a vector is
abbrev items_of : Vec Outcome Global → List Outcome
items_of told = told.items

pub told_of_both-requires-clause-first : goal.told_of_both-requires-clause-first
told_of_both-requires-clause-first c = first_tells c.args.choice c.args.first.bytes.now c.args.second.bytes.now c.doubts_of_first.result.now c.doubts_of_second.result.now (map items_of c.as_slice.result.now) c.in_ok-told.told.reach c.open.result c.open-2.result c.open.ensures c.open-2.ensures
    (rw c.as_slice.ensures.value c.in_ok-told.ensures.told)

pub told_of_both-requires-clause-second : goal.told_of_both-requires-clause-second
told_of_both-requires-clause-second c = second_tells c.args.choice c.args.first.bytes.now c.args.second.bytes.now c.doubts_of_first.result.now c.doubts_of_second.result.now (map items_of c.as_slice.result.now) c.in_ok-told.told.reach c.open.result c.open-2.result c.open.ensures c.open-2.ensures
    (rw c.as_slice.ensures.value c.in_ok-told.ensures.told)

pub told_of_both-requires-clause-all : goal.told_of_both-requires-clause-all
told_of_both-requires-clause-all c =
    sym (length-map c.as_slice.result.now items_of)
    ∙ all_streams c.args.choice c.args.first.bytes.now c.args.second.bytes.now c.doubts_of_first.result.now c.doubts_of_second.result.now (map items_of c.as_slice.result.now) c.in_ok-told.told.reach c.open.result c.open-2.result c.open.ensures c.open-2.ensures
    (rw c.as_slice.ensures.value c.in_ok-told.ensures.told)

pub returns-in-Ok-clause-told : goal.returns-in-Ok-clause-told
returns-in-Ok-clause-told c =
    let told : IsTelling c.in_ok-told.told.reach c.args.choice c.args.first.bytes.now c.args.second.bytes.now c.doubts_of_first.result.now c.doubts_of_second.result.now c.in-Ok.text.items =
    is_telling c.args.choice c.args.first.bytes.now c.args.second.bytes.now c.doubts_of_first.result.now c.doubts_of_second.result.now (map items_of c.as_slice.result.now) c.in_ok-told.told.reach c.open.result c.open-2.result c.open.ensures c.open-2.ensures
    (rw c.as_slice.ensures.value c.in_ok-told.ensures.told) c.in-Ok.text.items c.in-Ok.ensures in
    subst (λ (doubts : List Span). IsTelling c.in_ok-told.told.reach c.args.choice c.args.first.bytes.now c.args.second.bytes.now doubts (second_doubts c.in_ok-told.told.reach c.args.second.doubts.now c.args.second.if_short.now) c.in-Ok.text.items)
    c.doubts_of_first.ensures
    (subst (λ (doubts : List Span). IsTelling c.in_ok-told.told.reach c.args.choice c.args.first.bytes.now c.args.second.bytes.now c.doubts_of_first.result.now doubts c.in-Ok.text.items) c.doubts_of_second.ensures told)

pub returns-clause-found : goal.returns-clause-found
returns-clause-found c = record { ours = c.open.result; theirs = c.open-2.result; opens = (c.open.ensures, c.open-2.ensures); inner = Whole NoMemory; finds = tt; is = refl }
