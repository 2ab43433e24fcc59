use Rattle.amo_audit.proofs.Come.{nothing_given}
use Rattle.amo_audit.proofs.pieces_audit.beginning.Goals as goal

pub parts-init : goal.parts-init
parts-init g c = rw c.new-begun.ensures.items (nothing_given (g.R.Read.remaining c.args.reader.now))
