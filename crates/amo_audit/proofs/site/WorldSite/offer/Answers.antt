use Rattle.amo_audit.proofs.Found.{errs}
use Rattle.amo_audit.proofs.site.WorldSite.offer.Goals as goal

pub unreachable-requires : goal.unreachable-requires
unreachable-requires c =
    let emitted = rw c.in-None.is at c.in-Ok.ensures.none in
    (c.in-Err-Unsent.ensures.unsent.0 (errs _ _ c.in-Err-Unsent.field-0-is)).1 (emitted c.args.self.now)
