use Rattle.std.proofs.Common.{◌≡◌, List, ℕ, ◌∷◌, ◌++◌, codes, sym, ◌∙◌, ap, rules}
use Rattle.std.proofs.lemmas.List.{append_cancel_left}
use Rattle.amo_door.specs.Answer.{fate_word, place_members}
use Rattle.amo_call.proofs.Steps.{IfNone-weaker, IfSome-weaker, left}
use Rattle.amo_call.proofs.Told.{outcome_parts}
use Rattle.amo_call.proofs.answer.read_fate.Goals as goal

pub returns-clause-found : goal.returns-clause-found
returns-clause-found c =
    let claim = c.args.claim.now in
    let place = place_members claim.life claim.stream claim.number in
    let status : c.args.response.now.status ≡ 200 = search rules in
    IfSome-weaker c.fate_in.result _ _ (λ what found. record {
      status = status;
      body = sym c.as_slice.ensures.value ∙ c.in_ok-rest.ensures.found ∙ ap (λ (t : List ℕ). place ++ 44 ∷ t) found ∙ sym (outcome_parts claim.life claim.stream claim.number what);
    }) c.fate_in.ensures.found

pub returns-clause-none : goal.returns-clause-none
returns-clause-none c = IfNone-weaker c.fate_in.result _ _ (λ none what told.
    let claim = c.args.claim.now in
    let word = codes "\"outcome\":\"" ++ fate_word what ++ codes "\"}" in
    none what (append_cancel_left (codes ",") c.in_ok-rest.rest.now word
    (left c.as_slice.result.now (place_members claim.life claim.stream claim.number) (44 ∷ c.in_ok-rest.rest.now) (44 ∷ word) c.in_ok-rest.ensures.found
    (c.as_slice.ensures.value ∙ told.body ∙ outcome_parts claim.life claim.stream claim.number what)))) c.fate_in.ensures.none
