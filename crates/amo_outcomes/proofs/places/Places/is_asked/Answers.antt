use Rattle.std.proofs.Common.{◌↔◌, IsTrue, Bool, sym, subst}
use Rattle.std.specs.List.{Contains}
use Rattle.amo_outcomes.specs.Places.{Kept, asked_if}
use Rattle.amo_outcomes.proofs.places.Places.is_asked.Goals as goal

pub returns-then-asks : goal.returns-then-asks
returns-then-asks c =
    subst (λ (b : Bool). IsTrue c.has.result ↔ Contains (asked_if b c.args.self.now) c.args.put) (sym c.if-asks.true)
    (subst (λ (k : Kept). IsTrue c.has.result ↔ Contains k.asked c.args.put) c.self.view_is c.has.ensures)
