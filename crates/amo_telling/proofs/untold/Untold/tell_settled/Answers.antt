use Rattle.std.proofs.Common.{◌∙◌, ◌≡◌, ◌+◌, ◌++◌, ◌∷◌, [], List, ℕ, ap, arith, false, get_or, refl, subst, sym, take, true}
use Rattle.std.proofs.lemmas.List.{take_all, take_more}
use Rattle.amo_telling.specs.Untold.{AreThose, AreTallies, WasSentOn, events_of}
use Rattle.amo_telling.proofs.Settling.{one_line_more}
use Rattle.amo_telling.proofs.Tallies.{none_of_those, one_of_those}
use Rattle.amo_telling.proofs.untold.Untold.tell_settled.Goals.{then-has_sent+in_ok-push_settled, else-has_sent}
use Rattle.amo_telling.proofs.untold.Untold.tell_settled.Goals as goal

pub loop-stream-preserved : goal.loop-stream-preserved
loop-stream-preserved c =
    let (streams, those, is) = c.loop-stream.invariant in
    let index = c.loop-stream.stream-index in
    let in_doubt = c.args.in_doubt.now in
    let stream = get_or in_doubt index 0 in
    let longer = take_more in_doubt index 0 c.loop-stream-test.true in
    let known = subst (AreTallies c.args.self.now c.args.doubts.now) (sym c.as_slice.ensures.value) c.in_ok-tallies.ensures.known in
    elim c.if-has_sent.branch [
      | then-has_sent+in_ok-push_settled w ↦ (
        streams ++ stream ∷ [],
        (λ next past have right. one_of_those (WasSentOn (events_of past)) (take index in_doubt) (take (index + 1) in_doubt) streams (streams ++ stream ∷ []) stream longer refl
            (those next past have right) ((w.if-has_sent.ensures c.args.doubts.now known next past have right).0 refl)),
        one_line_more c.args.json c.args.text.now.items c.loop-stream.text.items _ streams stream is (ap (λ v. v.items) w.text-is ∙ w.in_ok-push_settled.ensures),
      )
      | else-has_sent w ↦ (
        streams,
        (λ next past have right. none_of_those (WasSentOn (events_of past)) (take index in_doubt) (take (index + 1) in_doubt) streams streams stream longer refl
            (those next past have right) (λ holds. unlike ((w.if-has_sent.ensures c.args.doubts.now known next past have right).1 holds))),
        ap (λ v. v.items) w.text-is ∙ is,
      )
    ]
  where
    unlike : false ≡ true → ⊥
    unlike e = cc

pub returns : goal.returns
returns c =
    let (streams, those, is) = c.loop-stream.invariant in
    let all = take_all c.loop-stream.stream-index c.args.in_doubt.now (omega (arith, c.loop-stream-test.false)) in (
      streams,
      (λ next past have right. subst (λ (l : List ℕ). AreThose (WasSentOn (events_of past)) l streams) all (those next past have right)),
      is,
    )
