use Rattle.std.proofs.Common.{◌∙◌, sym}
use Rattle.amo_text.proofs.HexDigits.{texts_differ}
use Rattle.amo_journal.proofs.InFront.{other_reply}
use Rattle.amo_journal.proofs.reply_reader.read_reply.Goals as goal

pub returns-else-eq-clause-none : goal.returns-else-eq-clause-none
returns-else-eq-clause-none c = λ r known.
    let cut = c.in-Some.ensures.found in
    other_reply c.args.text.now _ _ cut.0 cut.1 (λ w. texts_differ _ _ c.if-eq.ensures (w ∙ sym c.as_slice.ensures)) r
