use Rattle.std.proofs.Common.{◌∷◌, ◌++◌, codes, sym, ◌∙◌}
use Rattle.std.proofs.lemmas.List.{append_cancel_left, append_cancel_right}
use Rattle.amo_text.proofs.Cuts.{one_cut}
use Rattle.amo_call.specs.Kept.{claim_text, progress_name, progress_tail}
use Rattle.amo_call.proofs.Calls.{kept_parts, name_lacks_space, one_claim}
use Rattle.amo_call.proofs.Steps.{at_none}
use Rattle.amo_call.proofs.kept.read_kept.Goals as goal

pub returns-in_default-clause-fault : goal.returns-in_default-clause-fault
returns-in_default-clause-fault c = λ is kept known e.
    c.in_default.ensures.none (progress_name kept.progress) (progress_tail kept.progress) kept.claim (name_lacks_space kept.progress) known.0 (e ∙ kept_parts kept.claim kept.progress)

pub returns-in-None-clause-fault : goal.returns-in-None-clause-fault
returns-in-None-clause-fault c = λ is kept known e.
    let (lacks, claim, found) = c.in-Some.ensures.found in
    let name = c.in-Some.name.now in
    let tail = c.in-Some.tail.now ++ codes "\n" in
    let kept_tail = progress_tail kept.progress ++ codes "\n" in
    let whole = append_cancel_left (codes "amo call 1 ") (name ++ 32 ∷ (claim_text c.in-Some.claim ++ 32 ∷ tail)) (progress_name kept.progress ++ 32 ∷ (claim_text kept.claim ++ 32 ∷ kept_tail))
    (sym found ∙ e ∙ kept_parts kept.claim kept.progress) in
    let names = one_cut 32 name (claim_text c.in-Some.claim ++ 32 ∷ tail) (progress_name kept.progress) (claim_text kept.claim ++ 32 ∷ kept_tail) lacks (name_lacks_space kept.progress) whole in
    let claims = one_claim c.in-Some.claim kept.claim tail kept_tail claim known.0 names.1 in
    let tails = append_cancel_right c.in-Some.tail.now (progress_tail kept.progress) (codes "\n") claims.1 in
    at_none c.in_ok-progress.field-0 _ c.in-None.is c.in_ok-progress.ensures.none kept.progress known.1 names.0 tails
