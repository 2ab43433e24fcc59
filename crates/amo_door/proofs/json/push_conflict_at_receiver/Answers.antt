use Rattle.std.specs.Prelude.{codes}
use Rattle.amo_door.specs.declared.refusal.Refusal.TheVariants.{Conflict}
use Rattle.amo_door.specs.Answer.{receiver_members, refusal_members}
use Rattle.amo_door.proofs.Appends.{around}
use Rattle.amo_door.proofs.json.push_conflict_at_receiver.Goals as goal

pub returns : goal.returns
returns c =
    around c.extend_from_slice-2.result c.args.text.now.items (refusal_members Conflict c.args.sentence.now) (codes ",") (receiver_members c.args.life.now c.args.stream c.args.state) (codes "}")
    c.push_refusal.new.text.items c.extend_from_slice.new.self.items c.push_receiver.new.text.items c.extend_from_slice-2.new.self.items
    c.in_ok-push_refusal.ensures c.in_ok-extend_from_slice.ensures.items c.in_ok-push_receiver.ensures c.extend_from_slice-2.ensures.items
