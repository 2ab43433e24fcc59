use Rattle.std.proofs.Common.{◌∙◌, refl, sym}
use Rattle.amo_audit.proofs.event_reader.EventReader.next.Goals as goal

pub returns-in-Some-2-clause-read : goal.returns-in-Some-2-clause-read
returns-in-Some-2-clause-read c = λ text events has.
    let here = rw c.in-Some-2.is at c.in_ok-line.ensures.some in
    c.take.ensures.read c.in-Some.version c.in-Some-2.more.text.now text events c.in-Some.is here.0 (sym c.rest-rest.ensures ∙ here.1) refl has
