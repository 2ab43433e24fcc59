use Rattle.std.proofs.Common.{◌∙◌, ◌≡◌, ◌+◌, ◌++◌, ◌∷◌, [], ap, append-nil, arith, false, refl, subst, sym, true}
use Rattle.std.specs.List.{range_with_len}
use Rattle.amo_telling.specs.Untold.{AreThose, AreTallies, IsSettledByNow}
use Rattle.amo_telling.proofs.Settling.{one_line_more}
use Rattle.amo_telling.proofs.Tallies.{none_of_those, one_of_those, streams_push}
use Rattle.amo_telling.proofs.untold.Untold.tell_settled_by_now.Goals.{then-is_settled_by_now+in_ok-push_settled, else-is_settled_by_now}
use Rattle.amo_telling.proofs.untold.Untold.tell_settled_by_now.Goals as goal

pub streams-init : goal.streams-init
streams-init c = ([], (λ past follows. record { picked = refl }), sym (append-nil c.args.text.now.items))

pub streams-preserved : goal.streams-preserved
streams-preserved c =
    let (streams, those, is) = c.streams.invariant in
    let place = c.streams.place in
    let known = subst (AreTallies c.args.self.now c.args.doubts.now) (sym c.as_slice.ensures.value) c.in_ok-tallies.ensures.known in
    elim c.if-is_settled_by_now.branch [
      | then-is_settled_by_now+in_ok-push_settled w ↦ (
        streams ++ (place + 1) ∷ [],
        (λ past follows. one_of_those (IsSettledByNow c.args.self.now past c.args.doubts.now) (range_with_len 1 place) (range_with_len 1 (place + 1)) streams (streams ++ (place + 1) ∷ [])
            (place + 1) (streams_push place) refl (those past follows) ((w.if-is_settled_by_now.ensures c.args.doubts.now known past follows).0 refl)),
        one_line_more c.args.json c.args.text.now.items c.streams.text.items _ streams (place + 1) is (ap (λ v. v.items) w.text-is ∙ w.in_ok-push_settled.ensures),
      )
      | else-is_settled_by_now w ↦ (
        streams,
        (λ past follows. none_of_those (IsSettledByNow c.args.self.now past c.args.doubts.now) (range_with_len 1 place) (range_with_len 1 (place + 1)) streams streams
            (place + 1) (streams_push place) refl (those past follows) (λ holds. unlike ((w.if-is_settled_by_now.ensures c.args.doubts.now known past follows).1 holds))),
        ap (λ v. v.items) w.text-is ∙ is,
      )
    ]
  where
    unlike : false ≡ true → ⊥
    unlike e = cc

pub returns : goal.returns
returns c =
    let (streams, those, is) = c.streams.invariant in
    let all : c.streams.place ≡ 256 = omega (arith, c.streams-test.false, c.streams.auto.place-end) in (
      streams,
      (λ past follows. subst (λ many. AreThose (IsSettledByNow c.args.self.now past c.args.doubts.now) (range_with_len 1 many) streams) all (those past follows)),
      is,
    )
