use Rattle.std.proofs.Common.{◌∙◌, refl, rules}
use Rattle.amo_live.specs.Service.{words_of}
use Rattle.amo_live.proofs.Fresh.{bears_none, bears_on}
use Rattle.amo_serve.proofs.Served.{serves_on, serves_still}
use Rattle.amo_serve.proofs.Sides.{moves_on, moves_still}
use Rattle.amo_serve.proofs.responder.Responder.ask_clients.Goals as goal

pub clients-init : goal.clients-init
clients-init g c =
    let first = c.args.self.now in
    record {
      noted = search rules;
      serves = serves_still first.numbers first.service.host.pass first.service.host.journal;
      words = bears_none (words_of first.service) (words_of first.service) first.service.host.pass first.service.host.pass refl refl;
      side = refl;
      alone = moves_still first.side first.service.host.pass;
    }

pub clients-preserved : goal.clients-preserved
clients-preserved g c =
    let first = c.args.self.now in let before = c.clients.self in let after = c.ask.new.self in
    record {
      noted = search rules;
      serves = serves_on first.numbers before.numbers after.numbers first.service.host.pass before.service.host.pass after.service.host.pass first.service.host.journal before.service.host.journal after.service.host.journal c.clients.invariant.serves c.in_ok-ask.ensures.serves;
      words = bears_on (words_of first.service) (words_of before.service) (words_of after.service) first.service.host.pass before.service.host.pass after.service.host.pass c.clients.invariant.words c.in_ok-ask.ensures.words;
      side = c.ask.ensures.side ∙ c.clients.invariant.side;
      alone = moves_on first.side before.side first.service.host.pass before.service.host.pass after.service.host.pass c.clients.invariant.side c.clients.invariant.alone c.in_ok-ask.ensures.alone;
    }
