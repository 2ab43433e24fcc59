use Rattle.std.proofs.Common.{ℕ, subst}
use Rattle.std.specs.Prelude.{Some}
use Rattle.amo_call.specs.declared.taking.AfterTake.{AfterTake}
use Rattle.amo_call.specs.Takes.{ComesToTake, TakesBy}
use Rattle.amo_call.proofs.Takes.{turns_on}
use Rattle.amo_call.proofs.taking.take.Goals as goal

pub turns-init : goal.turns-init
turns-init g c = (c.in_ok-after.ensures.saved, c.in_ok-after.ensures.told)

pub turns-preserved : goal.turns-preserved
turns-preserved g c =
    let C = g.C.Caller in
    let stream = c.args.stream in
    let by = c.args.by.now in
    let kept = c.in-Turn.kept in
    let before = c.turns.caller in
    let next = subst (λ (a : AfterTake). ComesToTake C.heard stream (TakesBy C.heard stream by c.args.found) (C.is_silent before) (C.saved before) a) c.in-Turn.is c.turns.invariant.1 in
    let caller = c.make.new.caller in
    let after = c.in_ok-after-in-Turn.after in
    let told = subst (λ (s : ℕ). ComesToTake C.heard s (TakesBy C.heard s by (Some kept)) (C.is_silent caller) (C.saved caller) after) next.taking.stream_is c.in_ok-after-in-Turn.ensures.told in (
      c.in_ok-after-in-Turn.ensures.saved,
      turns_on C.heard stream by c.args.found (C.is_silent caller) (C.saved caller) after kept next.is_reached told,
    )
