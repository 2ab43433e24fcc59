use Rattle.std.proofs.Common.{◌≡◌, ◌↔◌, IsTrue, ◌∙◌, sym, ap, subst}
use Rattle.amo_object.specs.End.{other}
use Rattle.amo_core.specs.declared.act.Act.{Act}
use Rattle.amo_world.specs.Stream.{automaton_of, emitted_by}
use Rattle.amo_world.specs.History.{WasEmitted}
use Rattle.amo_audit.specs.declared.side.Side.{Side}
use Rattle.amo_audit.specs.Side.{Represents}
use Rattle.amo_audit.specs.Sides.{side_of}
use Rattle.amo_audit.proofs.sides.Sides.delivers_emitted.Goals as goal

pub returns-in-Deliver : goal.returns-in-Deliver
returns-in-Deliver c = λ s both.
    let end = other c.args.event.now.side in
    let there : c.side.result.now ≡ side_of c.args.self.now end = c.side.ensures ∙ ap (side_of c.args.self.now) c.other.ensures in
    let keeps = subst (λ (k : Side). Represents k (automaton_of s end) (emitted_by s end)) (sym there) (both end) in
    subst (λ (a : Act). IsTrue c.has_emitted.result ↔ WasEmitted s c.args.event.now.side a) (sym c.in-Deliver.is) (c.has_emitted.ensures _ _ keeps)
