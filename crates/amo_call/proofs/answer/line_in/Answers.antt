use Rattle.std.proofs.Common.{[], ◌++◌, codes, sym, ◌∙◌}
use Rattle.std.specs.Fmt.{decimal}
use Rattle.amo_text.proofs.Readings.{not_empty}
use Rattle.amo_call.proofs.Ends.{one_number}
use Rattle.amo_call.proofs.Steps.{left}
use Rattle.amo_call.proofs.Told.{brace}
use Rattle.amo_call.proofs.answer.line_in.Goals as goal

pub returns-else-is_empty-clause-none : goal.returns-else-is_empty-clause-none
returns-else-is_empty-clause-none c = λ line small e.
    let digits = c.in_ok-digits.digits.now in
    let behind = left c.args.text.now (codes "\"line\":") digits (decimal line ++ codes "}") c.in_ok-digits.ensures.found e in
    let found = c.in_ok-line.ensures.found in
    let numbers = one_number 125 c.in_ok-line.line line c.in_ok-line.rest.now [] brace found.0 small (sym found.1 ∙ behind) in
    not_empty c.in_ok-line.rest.now c.if-is_empty.ensures numbers.1
