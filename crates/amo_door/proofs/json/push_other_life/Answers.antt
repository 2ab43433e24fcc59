use Rattle.std.specs.Prelude.{codes}
use Rattle.amo_door.specs.declared.refusal.Refusal.TheVariants.{OtherLife}
use Rattle.amo_door.specs.Answer.{life_member, refusal_members}
use Rattle.amo_door.proofs.Appends.{around}
use Rattle.amo_door.proofs.json.push_other_life.Goals as goal

pub returns : goal.returns
returns c =
    around c.extend_from_slice-2.result c.args.text.now.items (refusal_members OtherLife c.args.sentence.now) (codes ",") (life_member c.args.life.now) (codes "}")
    c.push_refusal.new.text.items c.extend_from_slice.new.self.items c.push_life.new.text.items c.extend_from_slice-2.new.self.items
    c.in_ok-push_refusal.ensures c.in_ok-extend_from_slice.ensures.items c.in_ok-push_life.ensures c.extend_from_slice-2.ensures.items
