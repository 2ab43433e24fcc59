use Rattle.std.proofs.Common.{refl}
use Rattle.amo_live.specs.Service.{words_of}
use Rattle.amo_live.proofs.Delivering.{needuid_is_new, other_delivered, under_some_word}
use Rattle.amo_live.proofs.Lined.{stays_alive}
use Rattle.amo_live.proofs.service.Service.deliver_anew.Goals as goal

pub returns-in_default : goal.returns-in_default
returns-in_default g c =
    let old = c.args.self.now in let new = c.deliver.new.self in let bytes = c.args.bytes.now in
    record {
      noted = c.deliver.ensures.noted;
      life = stays_alive old.host new c.deliver.ensures.stays;
      delivered = under_some_word old.host new bytes 0 c.deliver.result c.deliver.ensures.delivered;
      words = other_delivered g.W.Lineage.is_drawn old.host new bytes c.args.packet.now (words_of old) c.deliver.result c.requires.spelt c.in_default.not-NeedUid c.deliver.ensures.delivered;
      same = refl;
    }

pub returns-clause-delivered : goal.returns-clause-delivered
returns-clause-delivered g c = under_some_word c.args.self.now.host c.deliver-2.new.self c.args.bytes.now c.in_ok-word.word c.deliver-2.result c.deliver-2.ensures.delivered

pub returns-clause-words : goal.returns-clause-words
returns-clause-words g c =
    let old = c.args.self.now in let new = c.deliver-2.new.self in let word = c.in_ok-word.word in
    needuid_is_new g.W.Lineage.is_drawn old.host new c.args.bytes.now c.args.packet.now (words_of old) c.draw.new.words word c.in-NeedUid.field-0 c.deliver-2.result c.in-NeedUid.is c.requires.spelt
    c.in_ok-word.ensures.new c.in_ok-word.ensures.stays c.deliver-2.ensures.delivered
