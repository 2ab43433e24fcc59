use Rattle.std.proofs.Common.{refl}
use Rattle.amo_audit.proofs.Marked.{none_marked}
use Rattle.amo_audit.proofs.marking.SideSet.new.Goals as goal

pub returns : goal.returns
returns c = (refl, none_marked 512)
