use Rattle.std.proofs.Common.{ℕ, true, inl, refl, subst, arith}
use Rattle.amo_call.specs.Answer.{TellsConflict}
use Rattle.amo_call.specs.Puts.{IsFound, IsTaken, PutsAnew, WasRefused}
use Rattle.amo_call.proofs.Puts.{goes_on_again, goes_on_behind, told_as_refused}
use Rattle.amo_call.proofs.Steps.{at_none}
use Rattle.amo_call.proofs.putting.look_at_conflict.Goals as goal

pub returns-in_default : goal.returns-in_default
returns-in_default g c =
    let C = g.C.Caller in
    let caller = c.args.caller.now in
    let kept = c.args.turn.kept in
    let status = c.requires.status in
    told_as_refused C.heard c.args.order.now (C.is_silent caller) (C.saved caller) c.args.turn c.args.response c.told_of_refusal.result c.requires.putting c.requires.answered (record {
      no_place = c.requires.no_place;
      no_conflict = at_none c.read_conflict.result ((last : ℕ) → ¬ (TellsConflict kept.claim true last c.args.response)) c.in_default.is c.read_conflict.ensures.none;
      no_other_life = λ e. omega (arith, e, status);
      no_slowness = λ e. omega (arith, e, status);
      no_delay = λ e. omega (arith, e, status);
    }) c.told_of_refusal.ensures

pub returns-then-turn : goal.returns-then-turn
returns-then-turn g c =
    let C = g.C.Caller in
    let caller = c.begin_again.new.caller in
    let first = c.requires.answered.first c.if-turn.true in
    goes_on_again C.heard c.args.order.now (C.is_fresh caller) (C.is_silent caller) (C.saved caller) c.begin_again.result c.args.turn.kept c.args.response c.requires.putting first
    (inl (c.in-Some.last, c.in-Some.ensures.found)) (WasRefused c.args.response c.in-Some.last first c.in-Some.ensures.found) c.begin_again.ensures

pub returns-then-last-turn : goal.returns-then-last-turn
returns-then-last-turn g c =
    let C = g.C.Caller in
    let caller = c.begin_again-then-last-turn.new.caller in
    goes_on_behind C.heard c.args.order.now (C.is_fresh caller) (C.is_silent caller) (C.saved caller) c.begin_again-then-last-turn.result c.args.turn.kept
    (IsTaken c.args.response c.requires.answered.call (subst (λ (n : ℕ). TellsConflict c.args.turn.kept.claim true n c.args.response) c.if-last-turn.true c.in-Some.ensures.found)) c.begin_again-then-last-turn.ensures

pub returns : goal.returns
returns g c = record {
  call = c.args.turn.kept;
  is_reached = IsFound c.args.turn.kept refl;
  putting = c.requires.putting;
  response = c.args.response;
  answered = c.requires.answered.call;
  last = c.in-Some.last;
  told = c.in-Some.ensures.found;
  other = c.if-last-turn.false;
}

pub begin_again-requires : goal.begin_again-requires
begin_again-requires g c =
    PutsAnew c.args.turn.kept c.requires.saved c.requires.putting
    (WasRefused c.args.response c.in-Some.last (c.requires.answered.first c.if-turn.true) c.in-Some.ensures.found)

pub begin_again-requires-then-last-turn : goal.begin_again-requires-then-last-turn
begin_again-requires-then-last-turn g c =
    PutsAnew c.args.turn.kept c.requires.saved c.requires.putting
    (IsTaken c.args.response c.requires.answered.call (subst (λ (n : ℕ). TellsConflict c.args.turn.kept.claim true n c.args.response) c.if-last-turn.true c.in-Some.ensures.found))
