use Rattle.std.proofs.Common.{◌≡◌, List, ℕ, ◌∷◌, ◌++◌, codes, sym, ◌∙◌, ap, rules}
use Rattle.amo_text.specs.Line.{Lacks}
use Rattle.amo_text.proofs.Cuts.{one_cut}
use Rattle.amo_call.proofs.Steps.{IfNone-weaker, IfSome-weaker, left, left_of_life}
use Rattle.amo_call.proofs.Told.{behind_life, conflict_parts}
use Rattle.amo_call.proofs.answer.read_conflict.Goals as goal

-- what stands behind the sentence
left_of_sentence : (body sentence state plain x : List ℕ) → Lacks 34 sentence → Lacks 34 plain → body ≡ codes "{\"error\":\"conflict\",\"text\":\"" ++ (sentence ++ 34 ∷ state)
    → body ≡ codes "{\"error\":\"conflict\",\"text\":\"" ++ (plain ++ 34 ∷ x) → state ≡ x
left_of_sentence body sentence state plain x p q found e =
    (one_cut 34 sentence state plain x p q (left body (codes "{\"error\":\"conflict\",\"text\":\"") (sentence ++ 34 ∷ state) (plain ++ 34 ∷ x) found e)).1

pub returns-in_err-state-clause-none : goal.returns-in_err-state-clause-none
returns-in_err-state-clause-none c = rw c.from_residual.ensures (λ last told.
    let claim = c.args.claim.now in
    let state = codes ",\"life\":\"" ++ (claim.life ++ 34 ∷ behind_life claim.stream c.args.puts last told.rest) in
    c.in_err-state.ensures.none told.sentence state told.plain
    (c.as_slice.ensures.value ∙ told.body ∙ conflict_parts told.sentence claim.life claim.stream c.args.puts last told.rest))

pub returns-in_err-after_life-clause-none : goal.returns-in_err-after_life-clause-none
returns-in_err-after_life-clause-none c = rw c.from_residual-in_err-after_life.ensures (λ last told.
    let claim = c.args.claim.now in
    let (sentence, plain, found) = c.in_ok-state.ensures.found in
    let behind = behind_life claim.stream c.args.puts last told.rest in
    let state = codes ",\"life\":\"" ++ (claim.life ++ 34 ∷ behind) in
    c.in_err-after_life.ensures.none behind (left_of_sentence c.as_slice.result.now sentence c.in_ok-state.state.now told.sentence state plain told.plain found
    (c.as_slice.ensures.value ∙ told.body ∙ conflict_parts told.sentence claim.life claim.stream c.args.puts last told.rest)))

pub returns-clause-found : goal.returns-clause-found
returns-clause-found c =
    let claim = c.args.claim.now in
    let (sentence, plain, found) = c.in_ok-state.ensures.found in
    let status : c.args.response.now.status ≡ 409 = search rules in
    IfSome-weaker c.last_behind.result _ _ (λ last known.
    let life = c.in_ok-after_life.ensures.found ∙ ap (λ (t : List ℕ). codes ",\"life\":\"" ++ (claim.life ++ 34 ∷ t)) known.1.1 in
    record {
      status = status;
      fits = known.0;
      sentence = sentence;
      plain = plain;
      rest = known.1.0;
      body = sym c.as_slice.ensures.value ∙ found ∙ ap (λ (t : List ℕ). codes "{\"error\":\"conflict\",\"text\":\"" ++ (sentence ++ 34 ∷ t)) life
          ∙ sym (conflict_parts sentence claim.life claim.stream c.args.puts last known.1.0);
    }) c.last_behind.ensures.found

pub returns-clause-none : goal.returns-clause-none
returns-clause-none c =
    let claim = c.args.claim.now in
    let (sentence, plain, found) = c.in_ok-state.ensures.found in
    IfNone-weaker c.last_behind.result _ _ (λ none last told.
    let behind = behind_life claim.stream c.args.puts last told.rest in
    let state = codes ",\"life\":\"" ++ (claim.life ++ 34 ∷ behind) in
    let same = left_of_sentence c.as_slice.result.now sentence c.in_ok-state.state.now told.sentence state plain told.plain found
    (c.as_slice.ensures.value ∙ told.body ∙ conflict_parts told.sentence claim.life claim.stream c.args.puts last told.rest) in
    none last told.rest told.fits (left_of_life c.in_ok-state.state.now (codes ",\"life\":\"") claim.life c.in_ok-after_life.after_life.now behind c.in_ok-after_life.ensures.found same))
    c.last_behind.ensures.none
