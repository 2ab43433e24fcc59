use Rattle.std.proofs.Common.{sym, ap}
use Rattle.std.proofs.lemmas.Result.{on_ok_weaker}
use Rattle.amo_live.specs.Service.{shown_by, spelling_of}
use Rattle.amo_live.proofs.Showing.{ack_told, other_tells}
use Rattle.amo_live.proofs.service.Service.tell_ack.Goals as goal

pub returns-in_default-clause-told : goal.returns-in_default-clause-told
returns-in_default-clause-told g c =
    sym (other_tells (spelling_of c.args.self.now) c.args.packet.now.stream c.args.packet.now.body c.args.messages (shown_by c.args.self.now) c.in_default.not-Ack)

pub returns-clause-told : goal.returns-clause-told
returns-clause-told g c =
    on_ok_weaker c.tell_answers.result
    (ack_told (spelling_of c.args.self.now) (spelling_of c.count_answers.new.self) c.args.packet.now.stream c.args.packet.now.body c.in-Ack.field-0 c.in-Ack.was_got c.of-word.result c.args.messages (shown_by c.args.self.now)
    (shown_by c.count_answers.new.self) (shown_by c.tell_answers.new.self) c.in-Ack.is c.of-word.ensures (ap (λ s. spelling_of s) c.count_answers.ensures) (ap (λ s. shown_by s) c.count_answers.ensures))
    c.tell_answers.ensures.told
