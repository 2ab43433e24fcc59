use Rattle.std.proofs.Common.{◌≡◌, None, Some, ◌∙◌, rules}
use Rattle.amo_packet.specs.contracts.packet.OwnedPacketOrd.TheImpl.Laws.{matches_eq-law}
use Rattle.amo_world.specs.Key.{key_of}
use Rattle.amo_world.specs.KeptSide.{place_at}
use Rattle.amo_world.proofs.Kept.{not_found, found}
use Rattle.amo_world.proofs.kept_side.KeptSide.has_emitted.Goals as goal

pub returns-in_default : goal.returns-in_default
returns-in_default c = λ side a emitted keeps.
    let absent : place_at c.args.self.now (key_of c.args.packet.now.body) ≡ None = search rules in
    ((λ no. absurd cc), λ among. absurd (not_found c.args.self.now side _ a emitted keeps c.args.packet.now absent among))

pub returns-in-Some-at : goal.returns-in-Some-at
returns-in-Some-at c = λ side a emitted keeps.
    let at : place_at c.args.self.now (key_of c.args.packet.now.body) ≡ Some c.in-Some.place = search rules in
    found c.args.self.now side _ a emitted keeps c.args.packet.now c.in-Some.place c.in-Some-at.emission.now c.eq.result at (search rules) (c.eq.ensures ∙ matches_eq-law c.in-Some-at.emission.now.packet c.args.packet.now)
