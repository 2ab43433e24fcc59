use Rattle.std.proofs.Common.{◌∷◌, ◌++◌, codes, refl, ◌∙◌}
use Rattle.amo_call.proofs.Ends.{one_word}
use Rattle.amo_call.proofs.Steps.{left}
use Rattle.amo_call.proofs.Told.{behind_life, object_parts}
use Rattle.amo_call.proofs.answer.read_state.Goals as goal

pub returns-in_err-last-clause-none : goal.returns-in_err-last-clause-none
returns-in_err-last-clause-none c = rw c.from_residual-in_err-last.ensures (λ state told.
    let found = c.in_ok-life.ensures.found in
    let behind = behind_life c.args.stream c.args.puts state.last told.rest in
    let words = left c.as_slice.result.now (codes "{\"life\":\"") (c.in_ok-life.life ++ 34 ∷ c.in_ok-life.rest.now) (state.life ++ 34 ∷ behind) found.1
    (c.as_slice.ensures.value ∙ told.body ∙ object_parts state.life c.args.stream c.args.puts state.last told.rest) in
    c.in_err-last.ensures.none state.last told.rest told.fits (one_word 34 c.in_ok-life.life state.life c.in_ok-life.rest.now behind refl found.0 told.life words).1)
