use Rattle.std.proofs.Common.{◌≡◌, ◌+◌, ◌++◌, ◌∷◌, ap, arith, []}
use Rattle.std.proofs.lemmas.List.{length_push}
use Rattle.amo_audit.proofs.Lone.{new_streams}
use Rattle.amo_audit.proofs.lone_auditor.nothing_taken.Goals as goal

pub loop-number-preserved : goal.loop-number-preserved
loop-number-preserved c =
    let pushed : c.push.new.self.items ≡ c.loop-number.streams.items ++ c.new.result ∷ [] = c.in_ok-push.ensures.items in record {
      count = rw (pushed, length_push) (ap (λ n. n + 1) c.loop-number.invariant.count);
      new = rw pushed (new_streams c.loop-number.streams.items c.new.result c.loop-number.number c.loop-number.invariant.new c.loop-number.invariant.count c.new.ensures);
    }

pub returns : goal.returns
returns c = record { count = omega (arith, c.loop-number.invariant.count); each = c.loop-number.invariant.new }
