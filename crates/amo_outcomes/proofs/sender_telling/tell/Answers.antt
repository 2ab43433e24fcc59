use Rattle.std.proofs.Common.{◌≡◌, ◌+◌, ◌<◌, ◌∷◌, [], ℕ, List, Vec, Global, map, sym, subst, arith}
use Rattle.std.proofs.lemmas.List.{map-append}
use Rattle.amo_outcomes.specs.declared.sender_outcome.SenderOutcome.{SenderOutcome}
use Rattle.amo_outcomes.specs.SenderOutcome.{SendersTold}
use Rattle.amo_outcomes.proofs.SenderFollowing.{one_sender_told_more, sender_followed_at}
use Rattle.amo_outcomes.proofs.sender_telling.tell.Goals as goal

-- the list that a vector is
abbrev items_of : Vec SenderOutcome Global → List SenderOutcome
items_of told = told.items

pub loop-follower-preserved : goal.loop-follower-preserved
loop-follower-preserved c = λ past followed.
    let place = c.loop-follower.follower-index in
    let told = c.in_ok-outcomes.field-0 in
    let within : place < 256 = omega (arith, c.loop-follower-test.true, followed.count) in
    subst (λ (all : List (Vec SenderOutcome Global)). SendersTold past (place + 1) (map items_of all)) (sym c.in_ok-push.ensures.items)
    (subst (SendersTold past (place + 1)) (sym (map-append items_of c.loop-follower.all.items (told ∷ [])))
    (one_sender_told_more past place (map items_of c.loop-follower.all.items) told.items
    (c.loop-follower.invariant past followed)
    (c.in_ok-outcomes.ensures (place + 1) past
    (sender_followed_at c.args.followers.now past place c.follower-item.result followed within c.follower-item.is))))

pub returns : goal.returns
returns c = λ past followed.
    let all : c.loop-follower.follower-index ≡ 256 =
    omega (arith, c.loop-follower-test.false, c.loop-follower.auto.follower-index-end, followed.count) in
    subst (λ (many : ℕ). SendersTold past many (map items_of c.loop-follower.all.items)) all
    (c.loop-follower.invariant past followed)
