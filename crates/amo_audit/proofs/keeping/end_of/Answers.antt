use Rattle.std.proofs.Common.{◌∙◌, sym}
use Rattle.amo_audit.proofs.Exchanged.{front_calls}
use Rattle.amo_audit.proofs.keeping.end_of.Goals as goal

pub returns-then-seen-many-clause-calls : goal.returns-then-seen-many-clause-calls
returns-then-seen-many-clause-calls c = front_calls c.args.steps.now c.loop-place.place c.args.many (sym c.if-seen-many.true ∙ c.loop-place.invariant.0)
