use Rattle.std.proofs.Common.{◌∷◌}
use Rattle.amo_offline.proofs.GoneOn.{one_goes_on}
use Rattle.amo_offline.proofs.pair.Reading.begin.Goals as goal

pub returns-in-Ok : goal.returns-in-Ok
returns-in-Ok g c = λ is.
    let (begun, gives, comes) = c.in-Ok.ensures is in
    one_goes_on c.args.which c.args.audit.now c.begin.new.self (λ pieces others have. (begun ∷ pieces, comes pieces others have))
