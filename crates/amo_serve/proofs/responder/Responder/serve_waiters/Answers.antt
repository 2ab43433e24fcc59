use Rattle.std.proofs.Common.{◌∙◌, refl, rules}
use Rattle.amo_live.specs.Service.{words_of}
use Rattle.amo_live.proofs.Fresh.{bears_none, bears_on}
use Rattle.amo_serve.proofs.Served.{serves_on, serves_still}
use Rattle.amo_serve.proofs.Sides.{moves_on, moves_still}
use Rattle.amo_serve.proofs.responder.Responder.serve_waiters.Goals as goal

pub waiters-init : goal.waiters-init
waiters-init g c =
    let first = c.args.self.now in
    record {
      noted = search rules;
      serves = serves_still first.numbers first.service.host.pass first.service.host.journal;
      words = bears_none (words_of first.service) (words_of first.service) first.service.host.pass first.service.host.pass refl refl;
      side = refl;
      alone = moves_still first.side first.service.host.pass;
    }

pub waiters-preserved : goal.waiters-preserved
waiters-preserved g c =
    let first = c.args.self.now in let before = c.waiters.self in let after = c.serve_waiter.new.self in
    record {
      noted = search rules;
      serves = serves_on first.numbers before.numbers after.numbers first.service.host.pass before.service.host.pass after.service.host.pass first.service.host.journal before.service.host.journal after.service.host.journal c.waiters.invariant.serves c.in_ok-serve_waiter.ensures.serves;
      words = bears_on (words_of first.service) (words_of before.service) (words_of after.service) first.service.host.pass before.service.host.pass after.service.host.pass c.waiters.invariant.words c.in_ok-serve_waiter.ensures.words;
      side = c.serve_waiter.ensures.side ∙ c.waiters.invariant.side;
      alone = moves_on first.side before.side first.service.host.pass before.service.host.pass after.service.host.pass c.waiters.invariant.side c.waiters.invariant.alone c.in_ok-serve_waiter.ensures.alone;
    }
