use Rattle.std.proofs.Common.{List, ℕ, ◌++◌, codes, sym, ◌∙◌, ap}
use Rattle.amo_call.proofs.Told.{refusal_parts}
use Rattle.amo_call.proofs.answer.read_refusal.Goals as goal

pub returns-clause-found : goal.returns-clause-found
returns-clause-found c =
    let found = c.in_ok-word-2.ensures.found in
    record {
      is_word = found.0;
      rest = c.in_ok-word-2._rest.now;
      body = sym c.as_slice.ensures.value ∙ c.in_ok-word.ensures.found ∙ ap (λ (t : List ℕ). codes "{\"error\":\"" ++ t) found.1
          ∙ sym (refusal_parts c.in_ok-word-2.word c.in_ok-word-2._rest.now);
    }
