use Rattle.std.proofs.Common.{◌∷◌, ◌++◌, codes, sym, ◌∙◌}
use Rattle.std.specs.Fmt.{decimal}
use Rattle.std.proofs.lemmas.List.{append_cancel_left}
use Rattle.amo_call.proofs.Ends.{one_number}
use Rattle.amo_call.proofs.Steps.{left}
use Rattle.amo_call.proofs.Told.{comma, event_parts}
use Rattle.amo_call.proofs.answer.place_in.Goals as goal

pub returns-in_err-digits-clause-none : goal.returns-in_err-digits-clause-none
returns-in_err-digits-clause-none c = rw c.from_residual.ensures (λ place known e.
    let digits = decimal place.position ++ 44 ∷ (codes "\"line\":" ++ (decimal place.line ++ codes "}")) in
    c.in_err-digits.ensures.none digits (append_cancel_left (codes ",") c.args.text.now (codes "\"position\":" ++ digits) (e ∙ event_parts place)))

pub returns-in_err-line-clause-none : goal.returns-in_err-line-clause-none
returns-in_err-line-clause-none c = rw c.from_residual-in_err-line.ensures (λ place known e.
    let line = codes "\"line\":" ++ (decimal place.line ++ codes "}") in
    let digits = decimal place.position ++ 44 ∷ line in
    let text = append_cancel_left (codes ",") c.args.text.now (codes "\"position\":" ++ digits) (e ∙ event_parts place) in
    let behind = left c.args.text.now (codes "\"position\":") c.in_ok-digits.digits.now digits c.in_ok-digits.ensures.found text in
    let found = c.in_ok-position.ensures.found in
    let numbers = one_number 44 c.in_ok-position.position place.position c.in_ok-position.rest.now line comma found.0 known.0 (sym found.1 ∙ behind) in
    c.in_err-line.ensures.none place.line known.1 numbers.1)
