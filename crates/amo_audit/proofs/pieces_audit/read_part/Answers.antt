use Rattle.amo_audit.proofs.Come.{keeps_itself}
use Rattle.amo_audit.proofs.pieces_audit.read_part.Goals as goal

pub tries-init : goal.tries-init
tries-init g c = keeps_itself (g.R.Read.remaining c.args.reader.now)
