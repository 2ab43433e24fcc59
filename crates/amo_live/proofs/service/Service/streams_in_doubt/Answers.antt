use Rattle.std.proofs.Common.{◌≡◌, ◌+◌, suc, true, false, arith, rules}
use Rattle.amo_live.specs.Service.{is_in_doubt}
use Rattle.amo_live.proofs.Keeping.{none_doubtful, one_doubtful}
use Rattle.amo_live.proofs.service.Service.streams_in_doubt.Goals.{then-is_in_doubt+in_ok-push, else-is_in_doubt}
use Rattle.amo_live.proofs.service.Service.streams_in_doubt.Goals as goal

pub streams-preserved : goal.streams-preserved
streams-preserved g c =
    let place = c.streams.place in
    let is : place + 1 ≡ suc place = omega arith in
    elim c.if-is_in_doubt.branch [
      | then-is_in_doubt+in_ok-push w ↦
          let doubtful : is_in_doubt c.args.self.now (place + 1) ≡ true = search rules in
          rw w.found-is (one_doubtful (is_in_doubt c.args.self.now) place (place + 1) c.streams.found.items w.push.new.self.items is c.streams.invariant doubtful w.in_ok-push.ensures.items)
      | else-is_in_doubt w ↦
          let settled : is_in_doubt c.args.self.now (place + 1) ≡ false = search rules in
          rw w.found-is (none_doubtful (is_in_doubt c.args.self.now) place (place + 1) c.streams.found.items is c.streams.invariant settled)
    ]
