use Rattle.amo_audit.proofs.Furthest.{go_on}
use Rattle.amo_audit.proofs.laws.beginnings_go_on.Goals as goal

pub returns : goal.returns
returns c = go_on
