use Rattle.std.proofs.Common.{sym, subst}
use Rattle.amo_core.specs.declared.act.Act.{Act}
use Rattle.amo_core.specs.declared.act.Act.TheVariants as act
use Rattle.amo_core.specs.declared.reply.Reply.{Reply}
use Rattle.amo_outcomes.specs.SenderPlaces.{Hears}
use Rattle.amo_outcomes.proofs.SenderKeeping.{hears_put}
use Rattle.amo_outcomes.proofs.sender_places.SenderPlaces.hear.Goals as goal

pub returns-in_ok-push-in-Put-Ok : goal.returns-in_ok-push-in-Put-Ok
returns-in_ok-push-in-Put-Ok c =
    let k = c.args.self.now in
    let m = c.in-Put-Ok.field-0-0 in
    subst (λ (a : Act). Hears a c.args.reply.now k (record k { marks = c.push.new.self })) (sym c.in-Put-Ok.is-0)
    (subst (λ (r : Reply). Hears (act.Put m) r k (record k { marks = c.push.new.self })) (sym c.in-Put-Ok.is-1)
    (hears_put k m c.push.new.self c.in_ok-push-in-Put-Ok.ensures.items))

pub returns-in-Deliver-default : goal.returns-in-Deliver-default
returns-in-Deliver-default c =
    subst (λ (a : Act). Hears a c.args.reply.now c.args.self.now c.hear_packet.new.self) (sym c.in-Deliver-default.is-0)
    (λ at p h below keeps. c.hear_packet.ensures at p h keeps)
