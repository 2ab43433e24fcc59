use Rattle.std.proofs.Common.{◌≡◌, ◌∙◌, ap, refl, rules, sym}
use Rattle.amo_live.specs.Host.{HostState}
use Rattle.amo_live.specs.Service.{words_of}
use Rattle.amo_live.proofs.Fresh.{bears_as, bears_none, bears_on}
use Rattle.amo_serve.proofs.Served.{serves_as, serves_on, serves_still}
use Rattle.amo_serve.proofs.Sides.{moves_as, moves_on, moves_still}
use Rattle.amo_serve.proofs.turns.serve_door.Goals as goal

pub turns-init : goal.turns-init
turns-init g c =
    let first = c.args.responder.now in
    record {
      noted = search rules;
      serves = serves_still first.numbers first.service.host.pass first.service.host.journal;
      words = bears_none (words_of first.service) (words_of first.service) first.service.host.pass first.service.host.pass refl refl;
      side = refl;
      alone = moves_still first.side first.service.host.pass;
    }

pub turns-preserved : goal.turns-preserved
turns-preserved g c =
    let first = c.args.responder.now in let before = c.turns.responder in let after = c.turn_or_tell.new.responder in
    let waited = c.wait.new.service in
    let pass : waited.host.pass ≡ before.service.host.pass = ap (λ (t : HostState g.row.L.Denot g.row.S.Denot). t.pass) c.wait.ensures.0 in
    let journal : waited.host.journal ≡ before.service.host.journal = ap (λ (t : HostState g.row.L.Denot g.row.S.Denot). t.journal) c.wait.ensures.0 in
    let i = first.service.host.journal in let j = before.service.host.journal in let k = after.service.host.journal in
    record {
      noted = search rules;
      serves = serves_on first.numbers before.numbers after.numbers first.service.host.pass before.service.host.pass after.service.host.pass i j k c.turns.invariant.serves
          (serves_as before.numbers after.numbers before.numbers after.numbers waited.host.pass after.service.host.pass before.service.host.pass after.service.host.pass waited.host.journal k j k refl refl (sym pass) refl (sym journal) refl c.in_ok-turn_or_tell.ensures.serves);
      words = bears_on (words_of first.service) (words_of before.service) (words_of after.service) first.service.host.pass before.service.host.pass after.service.host.pass c.turns.invariant.words
          (bears_as (words_of waited) (words_of after.service) (words_of before.service) (words_of after.service) waited.host.pass after.service.host.pass before.service.host.pass after.service.host.pass (sym c.wait.ensures.4) refl (sym pass) refl c.in_ok-turn_or_tell.ensures.words);
      side = c.turn_or_tell.ensures.side ∙ c.turns.invariant.side;
      alone = moves_on first.side before.side first.service.host.pass before.service.host.pass after.service.host.pass c.turns.invariant.side c.turns.invariant.alone
          (moves_as before.side waited.host.pass after.service.host.pass before.service.host.pass after.service.host.pass (sym pass) refl c.in_ok-turn_or_tell.ensures.alone);
    }
