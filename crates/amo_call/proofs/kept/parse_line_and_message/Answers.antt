use Rattle.std.proofs.Common.{sym, ◌∙◌}
use Rattle.amo_text.specs.Hexadecimal.{hex}
use Rattle.amo_call.proofs.Calls.{line_parts, space}
use Rattle.amo_call.proofs.Ends.{one_number}
use Rattle.amo_call.proofs.Steps.{at_none}
use Rattle.amo_call.proofs.kept.parse_line_and_message.Goals as goal

pub returns-in-None-clause-none : goal.returns-in-None-clause-none
returns-in-None-clause-none c = λ line message small known e.
    let found = c.in-Some.ensures.found in
    let numbers = one_number 32 c.in-Some.line line c.in-Some.digits.now (hex message) space found.0 small (sym found.1 ∙ e ∙ line_parts line message) in
    at_none c.in_ok-message.field-0 _ c.in-None.is c.in_ok-message.ensures.none message known numbers.1
