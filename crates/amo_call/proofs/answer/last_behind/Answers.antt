use Rattle.std.proofs.Common.{ℕ, List, ◌∷◌, ◌++◌, codes, ◌∙◌, ap}
use Rattle.std.specs.Fmt.{decimal}
use Rattle.std.proofs.lemmas.List.{append_cancel_left}
use Rattle.amo_call.specs.Answer.{last_name}
use Rattle.amo_call.proofs.Steps.{left, left_of_name, name_of}
use Rattle.amo_call.proofs.answer.last_behind.Goals as goal

pub returns-in_err-digits-clause-none : goal.returns-in_err-digits-clause-none
returns-in_err-digits-clause-none c = rw c.from_residual-in_err-digits.ensures (λ last more small e.
    let number = decimal last ++ 44 ∷ more in
    let rest = c.in_ok-rest.rest.now in
    let streams = left c.args.text.now (codes ",\"stream\":") (decimal c.args.stream ++ 44 ∷ rest) (decimal c.args.stream ++ (last_name c.args.puts ++ number)) c.in_ok-rest.ensures.found e in
    let names = append_cancel_left (decimal c.args.stream) (44 ∷ rest) (last_name c.args.puts ++ number) streams in
    c.in_err-digits.ensures.none number (left_of_name rest c.last_front.result.now (last_name c.args.puts) number c.last_front.ensures names))

pub returns-in_err-last-clause-none : goal.returns-in_err-last-clause-none
returns-in_err-last-clause-none c = rw c.from_residual-in_err-last.ensures (λ last more small e.
    let number = decimal last ++ 44 ∷ more in
    let rest = c.in_ok-rest.rest.now in
    let streams = left c.args.text.now (codes ",\"stream\":") (decimal c.args.stream ++ 44 ∷ rest) (decimal c.args.stream ++ (last_name c.args.puts ++ number)) c.in_ok-rest.ensures.found e in
    let names = append_cancel_left (decimal c.args.stream) (44 ∷ rest) (last_name c.args.puts ++ number) streams in
    let behind = left_of_name rest c.last_front.result.now (last_name c.args.puts) number c.last_front.ensures names in
    c.in_err-last.ensures.none last more small (left rest c.last_front.result.now c.in_ok-digits.digits.now number c.in_ok-digits.ensures.found behind))

pub returns-clause-found : goal.returns-clause-found
returns-clause-found c =
    let rest = c.in_ok-rest.rest.now in
    let digits = c.in_ok-digits.digits.now in
    let found = c.in_ok-last.ensures.found in
    let name = name_of rest c.last_front.result.now (last_name c.args.puts) digits c.last_front.ensures c.in_ok-digits.ensures.found in
    let whole = name ∙ ap (λ (t : List ℕ). last_name c.args.puts ++ t) found.1 in
    (found.0, (c.in_ok-last._rest.now, c.in_ok-rest.ensures.found ∙ ap (λ (t : List ℕ). codes ",\"stream\":" ++ (decimal c.args.stream ++ t)) whole))
