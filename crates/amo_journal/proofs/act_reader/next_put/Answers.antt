use Rattle.amo_text.specs.Hexadecimal.{hex}
use Rattle.amo_text.proofs.Cuts.{no_cut, IsField-hex}
use Rattle.amo_journal.proofs.InFront.{no_put, one_field}
use Rattle.amo_journal.proofs.act_reader.next_put.Goals as goal

pub returns-in_default-clause-none : goal.returns-in_default-clause-none
returns-in_default-clause-none c = no_put c.args.text.now (λ m rest known e. no_cut 32 c.args.text.now (hex m) rest c.in_default.ensures.none e)

pub returns-in_default-2-clause-none : goal.returns-in_default-2-clause-none
returns-in_default-2-clause-none c =
    let cut = c.in-Some.ensures.found in
    no_put c.args.text.now (λ m rest known e.
    (rw c.in_default-2.is at c.in_ok-message.ensures.none) m known (one_field c.args.text.now _ _ (hex m) rest cut.0 cut.1 (IsField-hex m known.1) e).0)
