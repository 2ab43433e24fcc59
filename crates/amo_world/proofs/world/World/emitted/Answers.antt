use Rattle.std.proofs.Common.{sym, ◌∙◌, ap, subst}
use Rattle.amo_packet.specs.declared.packet.OwnedPacket.{OwnedPacket}
use Rattle.amo_world.specs.Stream.{IsStream}
use Rattle.amo_world.proofs.Emitted.{of_stream}
use Rattle.amo_world.proofs.world.World.emitted.Goals as goal

pub returns-clause-stream : goal.returns-clause-stream
returns-clause-stream c =
    let within = of_stream IsStream _ c.args.number c.in_ok-emission.emission.now c.self.invariant.within (sym (c.self.invariant.emitted c.args.number) ∙ sym c.in_ok-emission.ensures) in
    subst IsStream (sym (ap (λ (p : OwnedPacket). p.stream) c.as_packet.ensures.value)) within
