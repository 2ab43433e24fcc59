use Rattle.std.proofs.Common.{◌≡◌, true, false, sym, subst}
use Rattle.amo_packet.specs.declared.packet.OwnedBody.{OwnedBody}
use Rattle.amo_packet.specs.declared.packet.OwnedBody.TheVariants as packet
use Rattle.amo_outcomes.specs.Heard.{heard_body}
use Rattle.amo_outcomes.specs.SenderPlaces.{Keeps}
use Rattle.amo_outcomes.proofs.sender_places.SenderPlaces.hear_packet.Goals as goal

pub returns-in-Ack-default-true : goal.returns-in-Ack-default-true
returns-in-Ack-default-true c = λ mode p h keeps.
    let is : c.args.body.now ≡ packet.Ack c.in-Ack-default-true.id true = cc in
    subst (λ (body : OwnedBody). Keeps c.hear_got.new.self mode p (heard_body body p.sent h)) (sym is) (c.hear_got.ensures mode p h keeps)

pub returns-in-Ack-default-false : goal.returns-in-Ack-default-false
returns-in-Ack-default-false c = λ mode p h keeps.
    let is : c.args.body.now ≡ packet.Ack c.in-Ack-default-false.id false = cc in
    subst (λ (body : OwnedBody). Keeps c.hear_lost.new.self mode p (heard_body body p.sent h)) (sym is) (c.hear_lost.ensures mode p h keeps)
