use Rattle.std.proofs.Common.{arith, sym, ◌∙◌}
use Rattle.amo_text.proofs.Fields.{stream-injective}
use Rattle.amo_door.proofs.call.read_served.Goals as goal

pub returns-in_default-clause-refused : goal.returns-in_default-clause-refused
returns-in_default-clause-refused c = λ stream served is.
    let read = c.in-Some.ensures.found in
    let same = stream-injective c.in-Some.stream stream read.0 (served.0, served.1) (sym read.1 ∙ (c.as_bytes.ensures.value ∙ is)) in
    omega (arith, same, c.if-stream-served.false, served.2)
