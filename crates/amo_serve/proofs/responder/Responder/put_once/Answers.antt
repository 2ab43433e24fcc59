use Rattle.std.proofs.Common.{◌≡◌, Some, rules}
use Rattle.std.proofs.lemmas.Result.{IfOk-weaker}
use Rattle.amo_door.specs.declared.answer.When.TheVariants.{Before}
use Rattle.amo_door.specs.declared.claim.Decision.TheVariants as decided
use Rattle.amo_door.specs.declared.claim.Made.{Made}
use Rattle.amo_door.specs.Answer.{put_body, status_of_put}
use Rattle.amo_door.specs.Numbers.{decision, last_of}
use Rattle.amo_serve.proofs.Served.{conflicting_put, made_before, put_before, said_of, still}
use Rattle.amo_serve.proofs.responder.Responder.put_once.Goals as goal

pub returns-in-Again-clause-answered : goal.returns-in-Again-clause-answered
returns-in-Again-clause-answered g c =
    let s = c.args.self.now.numbers in
    let v = c.args.self.now.service.host.pass in
    let w = c.tell_put.new.self.service.host.pass in
    let j = c.args.self.now.service.host.journal in
    let k = c.tell_put.new.self.service.host.journal in
    let last = last_of s c.args.claim.stream in
    let again : decision s.life last c.args.claim (Some c.args.message) ≡ decided.Again = search rules in
    let (made, is) = made_before s.life c.args.claim (Some c.args.message) last again in
    let same : c.tell_put.new.self.numbers ≡ s = search rules in
    let pass : w ≡ v = search rules in
    let journal : k ≡ j = search rules in
    IfOk-weaker c.tell_put.result _ _
    (λ answer told. put_before s c.tell_put.new.self.numbers v w j k c.args.claim c.args.message made answer c.requires.stream again is same (still v w j k pass journal)
    (said_of (λ (m : Made). (answer.status ≡ status_of_put Before) × (answer.body.items ≡ put_body s.life c.args.claim.stream m)) last made is told)) c.tell_put.ensures.told

pub returns-in-Conflict-clause-answered : goal.returns-in-Conflict-clause-answered
returns-in-Conflict-clause-answered g c =
    let s = c.args.self.now.numbers in
    let v = c.args.self.now.service.host.pass in
    let w = c.tell_conflict.new.self.service.host.pass in
    let j = c.args.self.now.service.host.journal in
    let k = c.tell_conflict.new.self.service.host.journal in
    let conflict : decision s.life (last_of s c.args.claim.stream) c.args.claim (Some c.args.message) ≡ decided.Conflict = search rules in
    let same : c.tell_conflict.new.self.numbers ≡ s = search rules in
    let pass : w ≡ v = search rules in
    let journal : k ≡ j = search rules in
    IfOk-weaker c.tell_conflict.result _ _ (λ answer status. conflicting_put s c.tell_conflict.new.self.numbers v w j k c.args.claim c.args.message answer c.requires.stream conflict same (still v w j k pass journal) status) c.tell_conflict.ensures.status
