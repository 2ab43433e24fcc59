use Rattle.std.proofs.Common.{refl}
use Rattle.std.proofs.lemmas.Result.{IfOk-weaker}
use Rattle.amo_telling.specs.declared.listing.Listing.TheVariants.{OfBoth}
use Rattle.amo_telling.proofs.outcomes.told_of_one.Goals as goal

pub returns-in-None : goal.returns-in-None
returns-in-None c = rw c.in-None.is (IfOk-weaker c.told_of.result _ _ (λ text h. (h.0, OfBoth c.args.all, h.1, refl, h.2)) c.told_of.ensures)

pub returns-in-Some : goal.returns-in-Some
returns-in-Some c = rw c.in-Some.is c.told_of_longer.ensures
