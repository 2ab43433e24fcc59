use Rattle.std.proofs.Common.{◌∙◌, ◌≡◌, ◌+◌, ap, arith, false, refl, subst, sym, true}
use Rattle.std.specs.List.{range_with_len}
use Rattle.amo_telling.specs.Untold.{AreThose, AreTallies, IsInDoubt, events_of}
use Rattle.amo_telling.proofs.Tallies.{none_of_those, one_of_those, streams_push}
use Rattle.amo_telling.proofs.untold.Untold.in_doubt.Goals.{then-is_in_doubt+in_ok-push, else-is_in_doubt}
use Rattle.amo_telling.proofs.untold.Untold.in_doubt.Goals as goal

pub streams-init : goal.streams-init
streams-init c = λ next past have right. record { picked = c.new-streams.ensures.items }

pub streams-preserved : goal.streams-preserved
streams-preserved c = λ next past have right.
    let doubted = IsInDoubt c.args.self.now (events_of past) c.args.doubts.now c.args.before.now in
    let place = c.streams.place in
    let so_far = c.streams.invariant next past have right in
    let known = subst (AreTallies c.args.self.now c.args.doubts.now) (sym c.as_slice.ensures.value) c.in_ok-tallies.ensures.known in
    elim c.if-is_in_doubt.branch [
      | then-is_in_doubt+in_ok-push w ↦ one_of_those doubted (range_with_len 1 place) (range_with_len 1 (place + 1)) c.streams.streams.items _ (place + 1) (streams_push place)
          (ap (λ v. v.items) w.streams-is ∙ w.in_ok-push.ensures.items) so_far ((w.if-is_in_doubt.ensures c.args.doubts.now known next past have right).0 refl)
      | else-is_in_doubt w ↦ none_of_those doubted (range_with_len 1 place) (range_with_len 1 (place + 1)) c.streams.streams.items _ (place + 1) (streams_push place)
          (ap (λ v. v.items) w.streams-is) so_far (λ holds. unlike ((w.if-is_in_doubt.ensures c.args.doubts.now known next past have right).1 holds))
    ]
  where
    unlike : false ≡ true → ⊥
    unlike e = cc

pub returns : goal.returns
returns c = λ next past have right.
    let all : c.streams.place ≡ 256 = omega (arith, c.streams-test.false, c.streams.auto.place-end) in
    subst (λ many. AreThose (IsInDoubt c.args.self.now (events_of past) c.args.doubts.now c.args.before.now) (range_with_len 1 many) c.streams.streams.items) all (c.streams.invariant next past have right)
