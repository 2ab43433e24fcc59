use Rattle.std.proofs.Common.{◌∷◌, ◌++◌}
use Rattle.std.specs.Fmt.{decimal}
use Rattle.amo_packet.specs.Grammar.{spelling}
use Rattle.amo_text.specs.Hexadecimal.{hex}
use Rattle.amo_text.proofs.Cuts.{no_cut, IsField-hex}
use Rattle.amo_journal.proofs.Fields.{bytes_of_spelling}
use Rattle.amo_journal.proofs.InFront.{no_delivery, one_field}
use Rattle.amo_journal.proofs.act_reader.next_delivery.Goals as goal

pub returns-in_default-clause-none : goal.returns-in_default-clause-none
returns-in_default-clause-none c = no_delivery c.args.text.now (λ p w rest known small e.
    no_cut 32 c.args.text.now (hex (spelling p)) (decimal w ++ 32 ∷ rest) c.in_default.ensures.none e)

pub returns-in_default-next_decimal-clause-none : goal.returns-in_default-next_decimal-clause-none
returns-in_default-next_decimal-clause-none c =
    let cut = c.in-Some.ensures.found in
    no_delivery c.args.text.now (λ p w rest known small e.
    c.in_default-next_decimal.ensures.none w rest small (one_field c.args.text.now _ _ (hex (spelling p)) (decimal w ++ 32 ∷ rest) cut.0 cut.1 (IsField-hex (spelling p) (bytes_of_spelling p known.1)) e).1)

pub returns-in_default-2-clause-none : goal.returns-in_default-2-clause-none
returns-in_default-2-clause-none c =
    let cut = c.in-Some.ensures.found in
    no_delivery c.args.text.now (λ p w rest known small e.
    (rw c.in_default-2.is at c.in_ok-packet.ensures.none) p known (one_field c.args.text.now _ _ (hex (spelling p)) (decimal w ++ 32 ∷ rest) cut.0 cut.1 (IsField-hex (spelling p) (bytes_of_spelling p known.1)) e).0)
