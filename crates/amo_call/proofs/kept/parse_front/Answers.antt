use Rattle.std.proofs.Common.{◌≡◌, ℕ, List, ◌∷◌, ◌++◌, codes, sym, ◌∙◌, ap}
use Rattle.std.proofs.lemmas.List.{append_cancel_right}
use Rattle.amo_text.proofs.Cuts.{one_cut, no_cut}
use Rattle.amo_call.specs.Kept.{claim_text}
use Rattle.amo_call.proofs.Steps.{left, line_regroup}
use Rattle.amo_call.proofs.kept.parse_front.Goals as goal

-- the end of the line is behind the fields
ended : (name claim tail : List ℕ) → name ++ 32 ∷ (claim ++ 32 ∷ (tail ++ codes "\n")) ≡ (name ++ 32 ∷ (claim ++ 32 ∷ tail)) ++ codes "\n"
ended name claim tail = line_regroup name (codes " ") claim tail (codes "\n")

-- the fields of a line
fields_of : (bytes text fields name claim tail : List ℕ) → bytes ≡ codes "amo call 1 " ++ text → text ≡ fields ++ codes "\n"
    → bytes ≡ codes "amo call 1 " ++ (name ++ 32 ∷ (claim ++ 32 ∷ (tail ++ codes "\n"))) → fields ≡ name ++ 32 ∷ (claim ++ 32 ∷ tail)
fields_of bytes text fields name claim tail front end e =
    let line = left bytes (codes "amo call 1 ") text (name ++ 32 ∷ (claim ++ 32 ∷ (tail ++ codes "\n"))) front e in
    append_cancel_right fields (name ++ 32 ∷ (claim ++ 32 ∷ tail)) (codes "\n") (sym end ∙ line ∙ ended name claim tail)

pub returns-in_err-fields-clause-none : goal.returns-in_err-fields-clause-none
returns-in_err-fields-clause-none c = rw c.from_residual-in_err-fields.ensures (λ name tail claim lacks known e.
    let line = left c.args.bytes.now (codes "amo call 1 ") c.in_ok-text.text.now (name ++ 32 ∷ (claim_text claim ++ 32 ∷ (tail ++ codes "\n"))) c.in_ok-text.ensures.found e in
    c.in_err-fields.ensures.none (name ++ 32 ∷ (claim_text claim ++ 32 ∷ tail)) (line ∙ ended name (claim_text claim) tail))

pub returns-in_err-name-clause-none : goal.returns-in_err-name-clause-none
returns-in_err-name-clause-none c = rw c.from_residual-in_err-name.ensures (λ name tail claim lacks known e.
    let fields = fields_of c.args.bytes.now c.in_ok-text.text.now c.in_ok-fields.fields.now name (claim_text claim) tail c.in_ok-text.ensures.found c.in_ok-fields.ensures.found e in
    no_cut 32 c.in_ok-fields.fields.now name (claim_text claim ++ 32 ∷ tail) c.in_err-name.ensures.none fields)

pub returns-in_err-claim-clause-none : goal.returns-in_err-claim-clause-none
returns-in_err-claim-clause-none c = rw c.from_residual-in_err-claim.ensures (λ name tail claim lacks known e.
    let fields = fields_of c.args.bytes.now c.in_ok-text.text.now c.in_ok-fields.fields.now name (claim_text claim) tail c.in_ok-text.ensures.found c.in_ok-fields.ensures.found e in
    let cut = c.in_ok-name.ensures.found in
    let same = one_cut 32 c.in_ok-name.name.now c.in_ok-name.behind_name.now name (claim_text claim ++ 32 ∷ tail) cut.1 lacks (sym cut.0 ∙ fields) in
    c.in_err-claim.ensures.none claim tail known same.1)

pub returns-clause-found : goal.returns-clause-found
returns-clause-found c =
    let cut = c.in_ok-name.ensures.found in
    let found = c.in_ok-claim.ensures.found in
    let name = c.in_ok-name.name.now in
    let claim = claim_text c.in_ok-claim.claim in
    let tail = c.in_ok-claim.tail.now in
    let fields = cut.0 ∙ ap (λ (t : List ℕ). name ++ 32 ∷ t) found.1 in
    let line = c.in_ok-fields.ensures.found ∙ ap (λ (t : List ℕ). t ++ codes "\n") fields ∙ sym (ended name claim tail) in
    (cut.1, found.0, c.in_ok-text.ensures.found ∙ ap (λ (t : List ℕ). codes "amo call 1 " ++ t) line)
