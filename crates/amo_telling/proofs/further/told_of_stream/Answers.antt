use Rattle.std.proofs.Common.{◌≡◌, ◌+◌, List, length, sym, subst, arith}
use Rattle.std.proofs.lemmas.Option.{slice_get-get_or}
use Rattle.amo_telling.specs.declared.put_outcome.PutOutcome.{PutOutcome}
use Rattle.amo_telling.specs.Told.{AreToldFurther}
use Rattle.amo_telling.proofs.GoingOn.{one_told_further}
use Rattle.amo_telling.proofs.further.told_of_stream.Goals as goal

pub loop-put-preserved : goal.loop-put-preserved
loop-put-preserved c = λ past follows.
    let outcomes = c.args.outcomes.now in
    let put = c.loop-put.put in
    subst (λ (told : List PutOutcome). AreToldFurther past c.args.stream outcomes (put + 1) told) (sym c.in_ok-push.ensures.items)
    (one_told_further past c.args.stream outcomes put c.loop-put.told.items _ c.told_of_put.result (c.loop-put.invariant past follows)
    (slice_get-get_or outcomes put _ (omega (arith, c.loop-put-test.true))) (c.told_of_put.ensures past follows))

pub returns : goal.returns
returns c = λ past follows.
    let all : c.loop-put.put ≡ length c.args.outcomes.now = omega (arith, c.loop-put-test.false, c.loop-put.auto.put-end) in
    subst (λ n. AreToldFurther past c.args.stream c.args.outcomes.now n c.loop-put.told.items) all (c.loop-put.invariant past follows)
