use Rattle.std.proofs.Common.{◌≡◌, true, inl, inr, ◌∙◌, arith}
use Rattle.amo_call.proofs.Puts.{goes_again, told_as_delayed, told_as_refused}
use Rattle.amo_call.proofs.putting.look_at_refusal.Goals as goal

pub returns-then-is_put_off : goal.returns-then-is_put_off
returns-then-is_put_off g c =
    let C = g.C.Caller in
    let caller = c.put_again.new.caller in
    goes_again C.heard c.args.order.now (C.is_fresh caller) (C.is_silent caller) (C.saved caller) c.put_again.result c.args.turn c.told_of_delay-told.result
    (c.put_again.ensures.saved ∙ c.requires.saved) c.requires.putting
    (told_as_delayed C.heard c.args.order.now (C.is_silent caller) (C.saved caller) c.args.turn c.args.response c.told_of_delay-told.result c.requires.putting c.requires.answered
    (c.is_put_off.ensures.0 c.if-is_put_off.true) c.told_of_delay-told.ensures) c.put_again.ensures.again

pub returns-in_default : goal.returns-in_default
returns-in_default g c =
    let C = g.C.Caller in
    let caller = c.args.caller.now in
    told_as_refused C.heard c.args.order.now (C.is_silent caller) (C.saved caller) c.args.turn c.args.response c.told_of_refusal.result c.requires.putting c.requires.answered (record {
      no_place = c.requires.no_place;
      no_conflict = λ last t. omega (arith, t.status);
      no_other_life = λ e. omega (arith, e);
      no_slowness = λ e. let yes : c.is_put_off.result ≡ true = c.is_put_off.ensures.1 (inl e) in let bad : ⊥ = cc (yes, c.if-is_put_off.false) in bad;
      no_delay = λ e. let yes : c.is_put_off.result ≡ true = c.is_put_off.ensures.1 (inr e) in let bad : ⊥ = cc (yes, c.if-is_put_off.false) in bad;
    }) c.told_of_refusal.ensures
