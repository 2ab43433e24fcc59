use Rattle.std.proofs.Common.{◌≡◌, ℕ, List, ◌∷◌, ◌++◌, codes, ◌∙◌}
use Rattle.std.specs.Fmt.{decimal}
use Rattle.std.proofs.lemmas.List.{append_cancel_left}
use Rattle.amo_call.proofs.Steps.{IfNone-weaker, left, left_of_life}
use Rattle.amo_call.proofs.Told.{place_parts}
use Rattle.amo_call.proofs.answer.behind_place.Goals as goal

-- behind a stream and the comma there
left_of_stream : (text : List ℕ) (stream : ℕ) (x y : List ℕ) → text ≡ codes ",\"stream\":" ++ (decimal stream ++ 44 ∷ x) → text ≡ codes ",\"stream\":" ++ (decimal stream ++ 44 ∷ y) → x ≡ y
left_of_stream text stream x y found e =
    let streams = left text (codes ",\"stream\":") (decimal stream ++ 44 ∷ x) (decimal stream ++ 44 ∷ y) found e in
    append_cancel_left (codes ",") x y (append_cancel_left (decimal stream) (44 ∷ x) (44 ∷ y) streams)

pub returns-in_err-member-clause-none : goal.returns-in_err-member-clause-none
returns-in_err-member-clause-none c = rw c.from_residual-in_err-member.ensures (λ rest e.
    let claim = c.args.claim.now in
    let number = codes "\"number\":" ++ (decimal claim.number ++ 44 ∷ rest) in
    let members = codes ",\"stream\":" ++ (decimal claim.stream ++ 44 ∷ number) in
    let life = left_of_life c.args.body.now (codes "{\"life\":\"") claim.life c.in_ok-after_life.after_life.now members c.in_ok-after_life.ensures.found (e ∙ place_parts claim.life claim.stream claim.number (44 ∷ rest)) in
    c.in_err-member.ensures.none number life)

pub returns-in_err-digits-clause-none : goal.returns-in_err-digits-clause-none
returns-in_err-digits-clause-none c = rw c.from_residual-in_err-digits.ensures (λ rest e.
    let claim = c.args.claim.now in
    let number = codes "\"number\":" ++ (decimal claim.number ++ 44 ∷ rest) in
    let members = codes ",\"stream\":" ++ (decimal claim.stream ++ 44 ∷ number) in
    let life = left_of_life c.args.body.now (codes "{\"life\":\"") claim.life c.in_ok-after_life.after_life.now members c.in_ok-after_life.ensures.found (e ∙ place_parts claim.life claim.stream claim.number (44 ∷ rest)) in
    c.in_err-digits.ensures.none (decimal claim.number ++ 44 ∷ rest) (left_of_stream c.in_ok-after_life.after_life.now claim.stream c.in_ok-member.member.now number c.in_ok-member.ensures.found life))

pub returns-clause-none : goal.returns-clause-none
returns-clause-none c = IfNone-weaker c.behind_number.result _ _ (λ none rest e.
    let claim = c.args.claim.now in
    let number = codes "\"number\":" ++ (decimal claim.number ++ 44 ∷ rest) in
    let members = codes ",\"stream\":" ++ (decimal claim.stream ++ 44 ∷ number) in
    let life = left_of_life c.args.body.now (codes "{\"life\":\"") claim.life c.in_ok-after_life.after_life.now members c.in_ok-after_life.ensures.found (e ∙ place_parts claim.life claim.stream claim.number (44 ∷ rest)) in
    let member = left_of_stream c.in_ok-after_life.after_life.now claim.stream c.in_ok-member.member.now number c.in_ok-member.ensures.found life in
    none rest (left c.in_ok-member.member.now (codes "\"number\":") c.in_ok-digits.digits.now (decimal claim.number ++ 44 ∷ rest) c.in_ok-digits.ensures.found member)) c.behind_number.ensures.none
