use Rattle.std.proofs.Common.{◌≡◌, ◌↔◌, IsTrue, ◌∙◌, sym, ap, subst}
use Rattle.amo_object.specs.End.{other}
use Rattle.amo_core.specs.declared.act.Act.{Act}
use Rattle.amo_world.specs.declared.kept_side.KeptSide.{KeptSide}
use Rattle.amo_world.specs.KeptSide.{Represents}
use Rattle.amo_world.specs.KeptStream.{side_of}
use Rattle.amo_world.specs.Stream.{automaton_of, emitted_by}
use Rattle.amo_world.specs.History.{WasEmitted}
use Rattle.amo_world.proofs.kept_stream.KeptStream.delivers_emitted.Goals as goal

pub returns-in-Deliver : goal.returns-in-Deliver
returns-in-Deliver c = λ s both.
    let end = other c.args.event.now.side in
    let there : c.side.result.now ≡ side_of c.args.self.now end = c.side.ensures ∙ ap (side_of c.args.self.now) c.other.ensures in
    let keeps = subst (λ (k : KeptSide). Represents k end c.args.log.now.stored.items (automaton_of s end) (emitted_by s end)) (sym there) (both end) in
    subst (λ (a : Act). IsTrue c.has_emitted.result ↔ WasEmitted s c.args.event.now.side a) (sym c.in-Deliver.is) (c.has_emitted.ensures end _ _ keeps)
