use Rattle.std.proofs.Common.{Option, ◌++◌, refl, subst, sym}
use Rattle.std.specs.Option.{option_to_list}
use Rattle.amo_packet.specs.declared.packet.OwnedPacket.{OwnedPacket}
use Rattle.amo_audit.specs.Side.{Represents as RepresentsSide}
use Rattle.amo_audit.proofs.Kept.{keeps_more}
use Rattle.amo_audit.proofs.side.Side.note.Goals as goal

pub returns-in_ok-insert-clause-known : goal.returns-in_ok-insert-clause-known
returns-in_ok-insert-clause-known c = λ automaton emitted keeps.
    let new = record c.args.self.now { emitted = c.insert.new.self } in
    subst (λ (o : Option OwnedPacket). RepresentsSide new automaton (option_to_list o ++ emitted)) (sym c.in-Some.is)
    (keeps_more c.args.self.now new c.in-Some.packet automaton emitted refl c.in_ok-insert.ensures.updates.0 keeps)
