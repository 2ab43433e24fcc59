use Rattle.std.proofs.Common.{◌≡◌, ◌∙◌, refl, rules}
use Rattle.amo_world.proofs.Extensions.{further}
use Rattle.amo_serve.proofs.Served.{serves_none, still_to}
use Rattle.amo_serve.proofs.Sides.{moves_as, moves_none}
use Rattle.amo_live.specs.Service.{words_of}
use Rattle.amo_live.proofs.Fresh.{bears_on}
use Rattle.amo_live.proofs.Lined.{life_on}
use Rattle.amo_serve.proofs.responder.Responder.hear.Goals as goal

pub returns-clause-words : goal.returns-clause-words
returns-clause-words g c =
    let same : c.tell_settled.new.self.service ≡ c.resend.new.self = search rules in
    let first = c.args.self.now.service in
    rw same (bears_on (words_of first) (words_of c.hear.new.self) (words_of c.resend.new.self) first.host.pass c.hear.new.self.host.pass c.resend.new.self.host.pass c.in_ok-hear.ensures.words c.in_ok-resend.ensures.words)

pub returns-clause-serves : goal.returns-clause-serves
returns-clause-serves g c =
    let first = c.args.self.now in let heard = c.tell_settled.new.self in
    let numbers : heard.numbers ≡ first.numbers = search rules in
    let pass : heard.service.host.pass ≡ c.resend.new.self.host.pass = search rules in
    let i = first.service.host.journal in let k = heard.service.host.journal in let again = c.resend.new.self.host.journal in
    let journal : k ≡ again = search rules in
    serves_none first.numbers heard.numbers first.service.host.pass heard.service.host.pass i k numbers
    (still_to first.service.host.pass c.resend.new.self.host.pass heard.service.host.pass i again k pass journal (
      (c.in_ok-resend.ensures.none_put ∙ c.in_ok-hear.ensures.none_put, c.in_ok-resend.ensures.none_got ∙ c.in_ok-hear.ensures.none_got refl),
      further c.resend.new.self.host.pass.seen c.hear.new.self.host.pass.seen first.service.host.pass.seen c.in_ok-resend.ensures.shown.extends c.in_ok-hear.ensures.shown.extends,
      life_on first.service.host.pass c.hear.new.self.host.pass c.resend.new.self.host.pass i c.hear.new.self.host.journal again c.hear.ensures.life c.resend.ensures.life,
    ))

pub returns-clause-alone : goal.returns-clause-alone
returns-clause-alone g c =
    let first = c.args.self.now in let heard = c.tell_settled.new.self in let again = c.resend.new.self in
    let pass : heard.service.host.pass ≡ again.host.pass = search rules in
    moves_as first.side first.service.host.pass again.host.pass first.service.host.pass heard.service.host.pass refl pass
    (moves_none first.side first.service.host.pass again.host.pass (c.in_ok-resend.ensures.none_put ∙ c.in_ok-hear.ensures.none_put, c.in_ok-resend.ensures.none_got ∙ c.in_ok-hear.ensures.none_got refl))
