use Rattle.std.proofs.Common.{arith, ◌+◌, ◌∷◌, [], List, length, refl, sym, ap, subst, ◌∙◌, append_assoc, append-nil, length-append}
use Rattle.std.proofs.lemmas.List.{length-set}
use Rattle.amo_book.specs.Charge.{ChargeState}
use Rattle.amo_host.specs.Division.{IsPart}
use Rattle.amo_host.proofs.DivisionLemmas.{room_left, dealt, nothing_dealt}
use Rattle.amo_host.proofs.PartLemmas.{length_none}
use Rattle.amo_host.proofs.StationLemmas.{read_at}
use Rattle.amo_host.proofs.room.deal.Goals as goal

pub loop-charge-init : goal.loop-charge-init
loop-charge-init c =
    let gives = c.into_iter-charge-iterator.ensures.into_iter_gives in
    let n = length c.args.parts.items in
    record {
      can_next = tt;
      is_finite = tt;
      left = omega (arith, gives.1, ap (λ (xs : List ChargeState). length xs) gives.0);
      all = gives.0;
      count = refl;
      last = omega (arith, c.len-last.ensures, c.requires.some);
      turn = c.requires.some;
      rounds = (0, omega arith);
      each = nothing_dealt n (length c.args.charges.items) c.args.parts.items c.requires.room;
    }

pub push_reserved-requires : goal.push_reserved-requires
push_reserved-requires c =
    let i = c.loop-charge.invariant in
    let n = length c.args.parts.items in
    let old = c.index_mut.result.now in
    let at = read_at c.loop-charge.parts.items c.loop-charge.turn old (omega (arith, i.count, i.turn)) c.index_mut.ensures.value in
    let mine = i.each c.loop-charge.turn old at in
    let passed = ap (λ (xs : List ChargeState). length xs) c.in-Some.ensures.steps.0 in
    let whole = ap (λ (xs : List ChargeState). length xs) i.all in
    let left = room_left n (length c.args.charges.items) c.loop-charge.yielded c.loop-charge.turn i.rounds.0 old i.turn i.rounds.1 mine.0 (omega (arith, passed, whole, length-append c.loop-charge.yielded c.loop-charge.charge-iterator.rest.items)) mine.1 in
    omega (arith, left)

pub loop-charge-preserved-then-turn-last : goal.loop-charge-preserved-then-turn-last
loop-charge-preserved-then-turn-last c =
    let i = c.loop-charge.invariant in
    let steps = c.in-Some.ensures.steps in
    let n = length c.args.parts.items in
    let old = c.index_mut.result.now in
    let pushed = c.push_reserved.ensures in
    let all = rw steps.0 at i.all in
    record {
      can_next = tt;
      is_finite = tt;
      left = omega (arith, steps.1, i.left, ap (λ (xs : List ChargeState). length xs) steps.0);
      all = rw append_assoc all;
      count = length-set c.loop-charge.parts.items c.loop-charge.turn c.push_reserved.new.self ∙ i.count;
      last = i.last;
      turn = omega (arith, i.last, c.if-turn-last.true);
      rounds = (i.rounds.0, omega (arith, i.rounds.1, length-append c.loop-charge.yielded (c.in-Some.charge ∷ [])));
      each = dealt n (length c.args.charges.items) c.loop-charge.yielded c.loop-charge.turn i.rounds.0 c.in-Some.charge c.loop-charge.parts.items old c.push_reserved.new.self i.count i.turn i.rounds.1 i.each c.index_mut.ensures.value pushed.items pushed.capacity;
    }

pub loop-charge-preserved : goal.loop-charge-preserved
loop-charge-preserved c =
    let i = c.loop-charge.invariant in
    let steps = c.in-Some.ensures.steps in
    let n = length c.args.parts.items in
    let old = c.index_mut.result.now in
    let pushed = c.push_reserved.ensures in
    let all = rw steps.0 at i.all in
    record {
      can_next = tt;
      is_finite = tt;
      left = omega (arith, steps.1, i.left, ap (λ (xs : List ChargeState). length xs) steps.0);
      all = rw append_assoc all;
      count = length-set c.loop-charge.parts.items c.loop-charge.turn c.push_reserved.new.self ∙ i.count;
      last = i.last;
      turn = c.requires.some;
      rounds = (i.rounds.0 + 1, omega (arith, i.last, i.turn, c.if-turn-last.false, i.rounds.1, length-append c.loop-charge.yielded (c.in-Some.charge ∷ [])));
      each = dealt n (length c.args.charges.items) c.loop-charge.yielded c.loop-charge.turn i.rounds.0 c.in-Some.charge c.loop-charge.parts.items old c.push_reserved.new.self i.count i.turn i.rounds.1 i.each c.index_mut.ensures.value pushed.items pushed.capacity;
    }

pub returns : goal.returns
returns c =
    let i = c.loop-charge.invariant in
    let none = length_none c.loop-charge.charge-iterator.rest.items (omega (arith, i.left, c.in-None.ensures.steps.0)) in
    let all = rw none at i.all in
    let whole = sym (append-nil c.loop-charge.yielded) ∙ all in
    record {
      count = i.count;
      each = λ p part at. subst (λ (ys : List ChargeState). IsPart (length c.args.parts.items) p ys part.items) whole (i.each p part at).0;
    }
