use Rattle.std.proofs.Common.{◌↔◌, IsTrue, subst}
use Rattle.std.specs.List.{Contains}
use Rattle.amo_outcomes.specs.Places.{Kept}
use Rattle.amo_outcomes.proofs.places.Places.arrives.Goals as goal

pub returns : goal.returns
returns c = subst (λ (k : Kept). IsTrue c.has.result ↔ Contains k.arriving c.args.put) c.self.view_is c.has.ensures
