use Rattle.std.proofs.Common.{refl}
use Rattle.amo_resolve.proofs.Asking.{asks_nothing}
use Rattle.amo_resolve.proofs.plan.Ahead.nothing.Goals as goal

pub returns-clause-ahead : goal.returns-clause-ahead
returns-clause-ahead c = λ notes. record { asks = asks_nothing; got = refl; yes = refl; no = refl }
