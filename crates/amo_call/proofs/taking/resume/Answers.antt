use Rattle.std.proofs.Common.{◌≡◌, ◌≢◌, ℕ, List, refl, sym, ◌∙◌, subst}
use Rattle.amo_call.specs.declared.kept.Progress.TheVariants as progress
use Rattle.amo_call.specs.Takes.{IsFound}
use Rattle.amo_call.specs.Turns.{HasTake}
use Rattle.amo_call.proofs.Puts.{text_of_parts}
use Rattle.amo_call.proofs.Takes.{follows_ok, is_resumed, of_another_stream}
use Rattle.amo_call.proofs.taking.resume.Goals as goal

pub returns-then-kept-stream-clause-told : goal.returns-then-kept-stream-clause-told
returns-then-kept-stream-clause-told g c = λ by. record {
  call = c.args.kept;
  is_reached = IsFound c.args.kept refl;
  nothing = of_another_stream c.args.stream c.args.kept c.if-kept-stream.true;
  same = c.requires;
}

pub returns-in-Done-clause-told : goal.returns-in-Done-clause-told
returns-in-Done-clause-told g c = λ by.
    let C = g.C.Caller in
    let caller = c.take_next.new.caller in
    let same : c.args.kept.claim.stream ≡ c.args.stream = cc (c.if-kept-stream.false) in
    follows_ok C.heard c.args.stream by (C.is_silent caller) (C.saved caller) c.take_next.result c.args.kept c.in-Done.line same c.in-Done.is c.take_next.ensures.told

pub returns-in_default : goal.returns-in_default
returns-in_default g c =
    let C = g.C.Caller in
    let caller = c.args.caller.now in
    record {
      saved = subst (λ (t : List ℕ). HasTake t c.go_on.result) (sym c.requires) c.go_on.ensures.saved;
      told = λ by.
          let same : c.args.kept.claim.stream ≡ c.args.stream = cc (c.if-kept-stream.false) in
          let not_done : (line : ℕ) → c.args.kept.progress ≢ progress.Done line = c.in_default.not-Done in
          is_resumed C.heard c.args.stream by (C.is_silent caller) (C.saved caller) c.go_on.result c.args.kept same not_done c.requires c.go_on.ensures.value;
    }

pub take_next-requires : goal.take_next-requires
take_next-requires g c = c.requires ∙ text_of_parts c.args.kept c.args.kept.claim (progress.Done c.in-Done.line) refl c.in-Done.is
