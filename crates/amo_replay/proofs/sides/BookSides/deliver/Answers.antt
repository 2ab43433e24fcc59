use Rattle.amo_core.specs.declared.act.Act.TheVariants.{Deliver}
use Rattle.amo_packet.specs.Packet.{packet_of}
use Rattle.std.proofs.Common.{sym}
use Rattle.amo_replay.proofs.Owning.{pass_belongs, charge_belongs, charge_drives, driven_there, driven_after}
use Rattle.amo_replay.proofs.sides.BookSides.deliver.Goals as goal

pub deliver-requires-clause-book : goal.deliver-requires-clause-book
deliver-requires-clause-book c = (
  pass_belongs _ _ _ c.self.invariant _ _ c.index_mut-pass.ensures.value,
  charge_belongs _ _ _ c.self.invariant c.args.side c.args.packet.now.stream _ _ _ c.requires.stream c.place_of.ensures c.index_mut-charge.ensures.value,
)

pub deliver-requires-clause-stream : goal.deliver-requires-clause-stream
deliver-requires-clause-stream c =
    sym (charge_drives _ _ _ c.self.invariant c.args.side c.args.packet.now.stream _ _ _ c.requires.stream c.place_of.ensures c.index_mut-charge.ensures.value).1

pub invariant_of-self-2 : goal.invariant_of-self-2
invariant_of-self-2 c =
    driven_after _ _ _ c.self.invariant _ _ _ _ _ _ _ c.args.side c.args.packet.now.stream (Deliver (packet_of c.args.packet.now) c.args.word) _ _ c.in_ok-done.done
    c.index_mut-pass.ensures.value c.requires.stream c.place_of.ensures c.index_mut-charge.ensures.value c.in_ok-done.ensures.driven

pub returns-clause-added : goal.returns-clause-added
returns-clause-added c =
    rw (sym c.self.view_is)
    (driven_there _ _ _ c.self.invariant _ _ _ _ _ _ _ c.args.side c.args.packet.now.stream (Deliver (packet_of c.args.packet.now) c.args.word) _ _ c.in_ok-done.done
    c.index_mut-pass.ensures.value c.requires.stream c.place_of.ensures c.index_mut-charge.ensures.value c.in_ok-done.ensures.driven c.deliver.ensures.right)
