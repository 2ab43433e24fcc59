use Rattle.std.proofs.Common.{◌≡◌, ◌∷◌, Some, ap, ◌∙◌, rules}
use Rattle.amo_object.specs.declared.step.End.TheVariants.{Receiver}
use Rattle.amo_core.specs.declared.act.Act.TheVariants as act
use Rattle.amo_core.specs.declared.reply.Reply.TheVariants as event_reply
use Rattle.amo_book.specs.Pass.{PassState, mine}
use Rattle.amo_live.specs.Callers.{HappensAt, IsSameLife, gets_in}
use Rattle.amo_live.specs.Host.{puts_in}
use Rattle.amo_door.specs.declared.claim.Made.{Made}
use Rattle.amo_door.specs.Numbers.{last_of, made_for}
use Rattle.amo_serve.specs.Serving.{CarriesMade}
use Rattle.amo_serve.proofs.Served.{said_of, taken_now}
use Rattle.amo_serve.proofs.responder.Responder.take_next.Goals as goal

pub returns-clause-taken : goal.returns-clause-taken
returns-clause-taken g c =
    let s = c.args.self.now.numbers in
    let v = c.args.self.now.service.host.pass in
    let w = c.tell_news.new.self.service.host.pass in
    let i = c.args.self.now.service.host.journal in
    let j = c.get_for_caller.new.self.host.journal in
    let k = c.tell_news.new.self.service.host.journal in
    let message = c.in-Some.message in
    let place = c.place_of.result in
    let answer = c.in_ok-tell_taken.field-0 in
    let start : c.tell_news.new.self.numbers ≡ s = search rules in
    let pass : w ≡ c.get_for_caller.new.self.host.pass = search rules in
    let journal : k ≡ j = search rules in
    let none : puts_in (mine c.get_for_caller.new.self.host.pass) ≡ puts_in (mine v) = search rules in
    let puts : puts_in (mine w) ≡ puts_in (mine v) = ap (λ (p : PassState). puts_in (mine p)) pass ∙ none in
    let one = rw c.in-Some.is at c.in_ok-message.ensures.got in
    let gets : gets_in (mine w) ≡ (c.args.claim.stream, message) ∷ gets_in (mine v) = ap (λ (p : PassState). gets_in (mine p)) pass ∙ one.0 in
    let told : place.position ≡ c.in-Some.at.position = search rules in
    let line : place.line ≡ c.in-Some.at.line = search rules in
    let at : HappensAt v w k Receiver c.args.claim.stream act.Get (event_reply.Got message) place.position place.line = rw (told, line, pass, journal) one.1 in
    let goes_on : IsSameLife v w i k = rw (pass, journal) c.get_for_caller.ensures.life in
    let last : last_of c.note_take.new.self c.args.claim.stream ≡ Some (made_for c.args.claim message place) = search rules in
    taken_now s c.note_take.new.self v w i k c.args.claim message place answer goes_on at (λ past keeps. c.note_take.ensures.turns past (rw start keeps)) puts gets
    (said_of (λ (m : Made). CarriesMade c.args.claim.stream m answer) (last_of c.note_take.new.self c.args.claim.stream) (made_for c.args.claim message place) last c.in_ok-tell_taken.ensures)
