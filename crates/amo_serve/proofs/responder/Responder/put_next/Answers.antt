use Rattle.std.proofs.Common.{◌≡◌, ℕ, List, ◌∷◌, Some, ap, sym, ◌∙◌, rules}
use Rattle.std.proofs.lemmas.Result.{IfOk-weaker}
use Rattle.amo_object.specs.declared.step.End.TheVariants.{Sender}
use Rattle.amo_core.specs.declared.act.Act.TheVariants as act
use Rattle.amo_core.specs.declared.reply.Reply.TheVariants as event_reply
use Rattle.amo_book.specs.Pass.{PassState, mine}
use Rattle.amo_live.specs.Callers.{HappensAt, IsSameLife, gets_in}
use Rattle.amo_live.specs.Host.{puts_in}
use Rattle.amo_door.specs.declared.answer.When.TheVariants.{Now}
use Rattle.amo_door.specs.declared.claim.Made.{Made}
use Rattle.amo_door.specs.Answer.{put_body, status_of_put}
use Rattle.amo_door.specs.Numbers.{last_of, made_for}
use Rattle.amo_serve.proofs.Served.{full_put, put_now, said_of, still_to}
use Rattle.amo_serve.proofs.responder.Responder.put_next.Goals as goal

pub returns-in_default-clause-answered : goal.returns-in_default-clause-answered
returns-in_default-clause-answered g c =
    let s = c.args.self.now.numbers in
    let v = c.args.self.now.service.host.pass in
    let w = c.tell_full.new.self.service.host.pass in
    let i = c.args.self.now.service.host.journal in
    let j = c.put_on.new.self.service.host.journal in
    let k = c.tell_full.new.self.service.host.journal in
    let same : c.tell_full.new.self.numbers ≡ s = search rules in
    let pass : w ≡ c.put_on.new.self.service.host.pass = search rules in
    let journal : k ≡ j = search rules in
    let none = rw c.in_default.is at c.in_ok-at.ensures.put in
    let kept = still_to v c.put_on.new.self.service.host.pass w i j k pass journal ((none.0, c.in_ok-at.ensures.none_got), none.1, c.put_on.ensures.life) in
    IfOk-weaker c.tell_full.result _ _ (λ answer status. full_put s c.tell_full.new.self.numbers v w i k c.args.claim c.args.message answer c.requires.stream c.requires.next same kept status) c.tell_full.ensures.status

pub returns-clause-answered : goal.returns-clause-answered
returns-clause-answered g c =
    let s = c.args.self.now.numbers in
    let v = c.args.self.now.service.host.pass in
    let w = c.tell_put.new.self.service.host.pass in
    let i = c.args.self.now.service.host.journal in
    let j = c.put_on.new.self.service.host.journal in
    let k = c.tell_put.new.self.service.host.journal in
    let made = made_for c.args.claim c.args.message c.place_of.result in
    let same : c.tell_put.new.self.numbers ≡ c.note_put.new.self = search rules in
    let pass : w ≡ c.put_on.new.self.service.host.pass = search rules in
    let journal : k ≡ j = search rules in
    let copied : c.in_ok-copy.copy ≡ c.args.message = search rules in
    let one = rw c.in-Some.is at c.in_ok-at.ensures.put in
    let put : puts_in (mine w) ≡ (c.args.claim.stream, c.args.message) ∷ puts_in (mine v) = ap (λ (p : PassState). puts_in (mine p)) pass ∙ (one.0 ∙ ap (λ (m : List ℕ). (c.args.claim.stream, m) ∷ puts_in (mine v)) copied) in
    let gets : gets_in (mine w) ≡ gets_in (mine v) = ap (λ (p : PassState). gets_in (mine p)) pass ∙ c.in_ok-at.ensures.none_got in
    let start : c.tell_news.new.self.numbers ≡ s = search rules in
    let place : c.place_of.result.position ≡ c.in-Some.at.position = search rules in
    let line : c.place_of.result.line ≡ c.in-Some.at.line = search rules in
    let at : HappensAt v w k Sender c.args.claim.stream (act.Put c.args.message) event_reply.Ok c.place_of.result.position c.place_of.result.line = rw (place, line, pass, journal, sym copied) one.1 in
    let goes_on : IsSameLife v w i k = rw (pass, journal) c.put_on.ensures.life in
    let last : last_of c.note_put.new.self c.args.claim.stream ≡ Some made = search rules in
    let life : c.note_put.new.self.life ≡ s.life = search rules in
    IfOk-weaker c.tell_put.result _ _
    (λ answer told. put_now s c.tell_put.new.self.numbers v w i k c.args.claim c.args.message c.place_of.result answer goes_on at (λ past keeps. rw same (c.note_put.ensures.turns past (rw start keeps))) put gets
    (rw (sym life) (said_of (λ (m : Made). (answer.status ≡ status_of_put Now) × (answer.body.items ≡ put_body c.note_put.new.self.life c.args.claim.stream m)) (last_of c.note_put.new.self c.args.claim.stream) made last told))) c.tell_put.ensures.told
