use Rattle.std.proofs.Common.{◌≡◌, ◌+◌, ◌++◌, ◌∷◌, ap, arith, rules, []}
use Rattle.std.proofs.lemmas.List.{length_push}
use Rattle.amo_world.proofs.Worlds.{new_world, new_streams}
use Rattle.amo_world.proofs.world.World.new.Goals as goal

pub invariant_of-result : goal.invariant_of-result
invariant_of-result c =
    new_world _ _ _ (omega (arith, c.loop-number.invariant.count)) c.loop-number.invariant.new c.new-2.ensures.stored c.new-2.ensures.order c.new-2.ensures.events c.new-2.ensures.history

pub loop-number-preserved : goal.loop-number-preserved
loop-number-preserved c =
    let pushed : c.push_reserved.new.self.items ≡ c.loop-number.streams.items ++ c.new.result ∷ [] = search rules in record {
      room = search rules;
      count = rw (pushed, length_push) (ap (λ n. n + 1) c.loop-number.invariant.count);
      new = rw pushed (new_streams c.loop-number.streams.items c.new.result c.loop-number.number c.loop-number.invariant.new c.loop-number.invariant.count c.new.ensures);
    }
