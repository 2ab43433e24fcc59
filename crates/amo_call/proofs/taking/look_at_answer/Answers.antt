use Rattle.std.proofs.Common.{◌≡◌, true, inl, inr, refl, arith}
use Rattle.amo_call.specs.declared.taking.TakeTold.TheVariants as told
use Rattle.amo_call.specs.Takes.{IsConflict, IsEmpty, IsFound, OfCall}
use Rattle.amo_call.proofs.Takes.{goes_again, is_answered_ok}
use Rattle.amo_call.proofs.taking.look_at_answer.Goals as goal

pub returns-then-is_nothing-clause-told : goal.returns-then-is_nothing-clause-told
returns-then-is_nothing-clause-told g c =
    let C = g.C.Caller in
    let caller = c.take_again.new.caller in
    let kept = c.args.kept in
    goes_again C.heard c.args.by.now (C.is_silent caller) (C.saved caller) c.take_again.result kept told.Nothing c.requires.taking
    (IsEmpty kept c.requires.taking.0 (IsFound kept refl) c.requires.taking.1 c.args.response c.requires.answered (c.is_nothing.ensures.0 c.if-is_nothing.true)) c.take_again.ensures.again

pub returns-in-200-clause-told : goal.returns-in-200-clause-told
returns-in-200-clause-told g c =
    let C = g.C.Caller in
    let caller = c.finish.new.caller in
    is_answered_ok C.heard c.args.by.now (C.is_silent caller) (C.saved caller) c.finish.result c.args.kept c.args.response c.requires.taking c.requires.answered c.finish.ensures.told

pub returns-in-409-clause-told : goal.returns-in-409-clause-told
returns-in-409-clause-told g c =
    IsConflict c.args.kept c.requires.taking.0 (IsFound c.args.kept refl) c.requires.taking.1 c.args.response c.requires.answered c.in-409.is

pub look_back-requires-clause-over : goal.look_back-requires-clause-over
look_back-requires-clause-over g c = record { response = c.args.response; answered = c.requires.answered; status = c.in-410.is }

pub returns-in_default-clause-told : goal.returns-in_default-clause-told
returns-in_default-clause-told g c =
    OfCall c.args.kept c.requires.taking.0 (IsFound c.args.kept refl) c.requires.taking.1 c.requires.answered (record {
      no_message = λ e. omega (arith, e);
      no_emptiness = λ e. let yes : c.is_nothing.result ≡ true = c.is_nothing.ensures.1 (inl e) in let bad : ⊥ = cc (yes, c.if-is_nothing.false) in bad;
      no_conflict = λ e. omega (arith, e);
      no_other_life = λ e. omega (arith, e);
      no_slowness = λ e. let yes : c.is_nothing.result ≡ true = c.is_nothing.ensures.1 (inr (inl e)) in let bad : ⊥ = cc (yes, c.if-is_nothing.false) in bad;
      no_delay = λ e. let yes : c.is_nothing.result ≡ true = c.is_nothing.ensures.1 (inr (inr e)) in let bad : ⊥ = cc (yes, c.if-is_nothing.false) in bad;
    })
