use Rattle.std.proofs.Common.{◌≡◌, false, true, sym, ◌∙◌}
use Rattle.amo_journal.proofs.Versions.{in_newest, in_oldest}
use Rattle.amo_journal.proofs.spelling.keeps_line.Goals as goal

pub returns-then-has_batches : goal.returns-then-has_batches
returns-then-has_batches c =
    ((λ is. in_newest c.args.version c.args.event.now (c.has_batches.ensures.0 is) c.requires), (λ can. c.if-has_batches.true))

pub returns-else-has_batches : goal.returns-else-has_batches
returns-else-has_batches c = in_oldest c.args.version c.args.event.now c.tells_of_batch.result
    (λ has. let both : false ≡ true = sym c.if-has_batches.false ∙ c.has_batches.ensures.1 has in cc) c.requires c.tells_of_batch.ensures
