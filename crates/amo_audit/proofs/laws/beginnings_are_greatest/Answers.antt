use Rattle.amo_audit.proofs.Furthest.{are_greatest}
use Rattle.amo_audit.proofs.laws.beginnings_are_greatest.Goals as goal

pub returns : goal.returns
returns c = are_greatest
