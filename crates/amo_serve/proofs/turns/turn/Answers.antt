use Rattle.std.proofs.Common.{◌≡◌, ◌∙◌, refl, rules}
use Rattle.std.proofs.lemmas.Result.{on_ok_weaker}
use Rattle.amo_live.specs.Service.{words_of}
use Rattle.amo_live.proofs.Fresh.{bears_as, bears_on}
use Rattle.amo_live.proofs.Lined.{life_as}
use Rattle.amo_serve.specs.Serving.{Serves}
use Rattle.amo_serve.proofs.Served.{serves_none, serves_on, still_in}
use Rattle.amo_serve.proofs.Sides.{moves_as, moves_on}
use Rattle.amo_serve.proofs.turns.turn.Goals as goal

pub returns-clause-serves : goal.returns-clause-serves
returns-clause-serves g c =
    let first = c.args.responder.now in let heard = c.hear.new.self in let waited = c.serve_waiters.new.self in let asked = c.ask_clients.new.self in let left = c.let_go.new.responder in
    let numbers : left.numbers ≡ asked.numbers = search rules in
    let pass : left.service.host.pass ≡ asked.service.host.pass = search rules in
    let i = first.service.host.journal in let j = asked.service.host.journal in
    let written = c.write_down.new.self.service.host in
    let same : left.service.host.pass ≡ written.pass = search rules in
    let journal : left.service.host.journal ≡ written.journal = search rules in
    let none : Serves asked.numbers left.numbers asked.service.host.pass left.service.host.pass j left.service.host.journal =
    serves_none asked.numbers left.numbers asked.service.host.pass left.service.host.pass j left.service.host.journal numbers
    (still_in asked.service.host.pass left.service.host.pass j left.service.host.journal pass (life_as asked.service.host.pass written.pass asked.service.host.pass left.service.host.pass j written.journal j left.service.host.journal refl same refl journal c.write_down.ensures.life)) in
    let to_waited = serves_on first.numbers heard.numbers waited.numbers first.service.host.pass heard.service.host.pass waited.service.host.pass i heard.service.host.journal waited.service.host.journal c.in_ok-hear.ensures.serves c.in_ok-serve_waiters.ensures.serves in
    let to_asked = serves_on first.numbers waited.numbers asked.numbers first.service.host.pass waited.service.host.pass asked.service.host.pass i waited.service.host.journal j to_waited c.in_ok-ask_clients.ensures.serves in
    on_ok_weaker c.let_go.result (λ noted. serves_on first.numbers asked.numbers left.numbers first.service.host.pass asked.service.host.pass left.service.host.pass i j left.service.host.journal to_asked none) c.let_go.ensures.noted

pub returns-clause-words : goal.returns-clause-words
returns-clause-words g c =
    let first = c.args.responder.now.service in let heard = c.hear.new.self.service in let waited = c.serve_waiters.new.self.service in let asked = c.ask_clients.new.self.service in let left = c.let_go.new.responder.service in
    let words : words_of left ≡ words_of asked = search rules in
    let pass : left.host.pass ≡ asked.host.pass = search rules in
    let to_waited = bears_on (words_of first) (words_of heard) (words_of waited) first.host.pass heard.host.pass waited.host.pass c.in_ok-hear.ensures.words c.in_ok-serve_waiters.ensures.words in
    let to_asked = bears_on (words_of first) (words_of waited) (words_of asked) first.host.pass waited.host.pass asked.host.pass to_waited c.in_ok-ask_clients.ensures.words in
    on_ok_weaker c.let_go.result (λ noted. bears_as (words_of first) (words_of asked) (words_of first) (words_of left) first.host.pass asked.host.pass first.host.pass left.host.pass refl words refl pass to_asked) c.let_go.ensures.noted

pub returns-clause-alone : goal.returns-clause-alone
returns-clause-alone g c =
    let first = c.args.responder.now in let heard = c.hear.new.self in let waited = c.serve_waiters.new.self in let asked = c.ask_clients.new.self in let left = c.let_go.new.responder in
    let pass : left.service.host.pass ≡ asked.service.host.pass = search rules in
    let to_waited = moves_on first.side heard.side first.service.host.pass heard.service.host.pass waited.service.host.pass c.hear.ensures.side c.in_ok-hear.ensures.alone c.in_ok-serve_waiters.ensures.alone in
    let to_asked = moves_on first.side waited.side first.service.host.pass waited.service.host.pass asked.service.host.pass (c.serve_waiters.ensures.side ∙ c.hear.ensures.side) to_waited c.in_ok-ask_clients.ensures.alone in
    on_ok_weaker c.let_go.result (λ noted. moves_as first.side first.service.host.pass asked.service.host.pass first.service.host.pass left.service.host.pass refl pass to_asked) c.let_go.ensures.noted
