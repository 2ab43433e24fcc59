use Rattle.std.proofs.Common.{◌≡◌, ◌<◌, Some, length, slice_get, sym, ap, subst, ◌∙◌}
use Rattle.amo_packet.specs.Packet.{packet_of}
use Rattle.amo_packet.specs.declared.packet.OwnedPacket.{OwnedPacket}
use Rattle.amo_host.specs.Station.{Station}
use Rattle.amo_host.proofs.StationLemmas.{for_place, for_charge}
use Rattle.amo_host.proofs.pump.Pump.deliver.Goals as goal

pub perform-requires-clause-place : goal.perform-requires-clause-place
perform-requires-clause-place g c =
    let s = c.args.self.now in
    subst (λ (t : Station g.row.W.Denot). c.in-Some.place < length t.charges) (sym c.word_for.ensures.rest)
    (for_place s c.in-Some.ensures.station c.in-Some.place (packet_of c.args.packet.now) c.in-Some.ensures.found)

pub perform-requires-clause-suits : goal.perform-requires-clause-suits
perform-requires-clause-suits g c = λ charge at.
    let s = c.args.self.now in
    let there = subst (λ (t : Station g.row.W.Denot). slice_get t.charges c.in-Some.place ≡ Some charge) c.word_for.ensures.rest at in
    ap (λ (p : OwnedPacket). p.stream) c.in-Ok.ensures.ok
    ∙ for_charge s c.in-Some.ensures.station c.in-Some.place (packet_of c.args.packet.now) charge c.in-Some.ensures.found there
