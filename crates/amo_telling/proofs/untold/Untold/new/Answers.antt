use Rattle.std.proofs.Common.{refl}
use Rattle.amo_telling.proofs.Untolds.{nothing_read}
use Rattle.amo_telling.proofs.untold.Untold.new.Goals as goal

pub returns : goal.returns
returns c = nothing_read _ _ c.in_ok-new.ensures refl refl c.new-2.ensures.empty refl
