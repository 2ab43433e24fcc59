use Rattle.std.proofs.Common.{◌∷◌, ◌++◌, sym, ◌∙◌, ap}
use Rattle.amo_call.proofs.Steps.{left}
use Rattle.amo_call.proofs.answer.behind_life.Goals as goal

pub returns-in_err-quote-clause-none : goal.returns-in_err-quote-clause-none
returns-in_err-quote-clause-none c = rw c.from_residual-in_err-quote.ensures (λ rest e.
    let life = c.args.life.now in
    let words = left c.args.text.now c.args.front.now c.in_ok-word.word.now (life ++ 34 ∷ rest) c.in_ok-word.ensures.found e in
    c.in_err-quote.ensures.none (34 ∷ rest) (words ∙ ap (λ t. t ++ 34 ∷ rest) (sym c.bytes.ensures.value)))

pub returns-in_err-rest-clause-none : goal.returns-in_err-rest-clause-none
returns-in_err-rest-clause-none c = rw c.from_residual-in_err-rest.ensures (λ rest e.
    let life = c.args.life.now in
    let words = left c.args.text.now c.args.front.now c.in_ok-word.word.now (life ++ 34 ∷ rest) c.in_ok-word.ensures.found e in
    let quotes = left c.in_ok-word.word.now c.bytes.result.now c.in_ok-quote.quote.now (34 ∷ rest) c.in_ok-quote.ensures.found (words ∙ ap (λ t. t ++ 34 ∷ rest) (sym c.bytes.ensures.value)) in
    c.in_err-rest.ensures.none rest quotes)
