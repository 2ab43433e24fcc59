use Rattle.std.proofs.Common.{subst, sym}
use Rattle.amo_audit.specs.declared.stops.Stops.{Stops}
use Rattle.amo_audit.specs.Judgement.{OfBoth}
use Rattle.amo_audit.specs.Stops.{StopAt}
use Rattle.amo_audit.proofs.LeftOut.{none_stops}
use Rattle.amo_audit.proofs.stops.stops_of_merged.Goals as goal

pub returns-in-Whole : goal.returns-in-Whole
returns-in-Whole c =
    let (x, y, p, q, (apart, (merged, preferred, held))) = rw c.in-Whole.is at c.in_ok-merge_into.ensures in
    subst (λ (stops : Stops). OfBoth c.args.first c.args.second (StopAt stops)) (sym c.of_reach.ensures) (none_stops c.args.first c.args.second x y merged p q apart preferred)
