use Rattle.std.proofs.Common.{◌∷◌, ◌++◌, codes}
use Rattle.amo_text.proofs.Cuts.{no_cut}
use Rattle.amo_call.proofs.Steps.{left}
use Rattle.amo_call.proofs.answer.behind_sentence.Goals as goal

pub returns-in_err-sentence-clause-none : goal.returns-in_err-sentence-clause-none
returns-in_err-sentence-clause-none c = rw c.from_residual.ensures (λ sentence rest plain. c.in_err-sentence.ensures.none (sentence ++ 34 ∷ rest))

pub returns-in_err-_sentence-clause-none : goal.returns-in_err-_sentence-clause-none
returns-in_err-_sentence-clause-none c = rw c.from_residual-in_err-_sentence.ensures (λ sentence rest plain e.
    let text = c.in_ok-sentence.sentence.now in
    no_cut 34 text sentence rest c.in_err-_sentence.ensures.none
    (left c.args.body.now (codes "{\"error\":\"conflict\",\"text\":\"") text (sentence ++ 34 ∷ rest) c.in_ok-sentence.ensures.found e))
