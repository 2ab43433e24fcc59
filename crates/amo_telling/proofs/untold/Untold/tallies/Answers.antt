use Rattle.std.proofs.Common.{◌∙◌, ◌-◌, ◌∷◌, [], ℕ, List, map, set, subst, sym}
use Rattle.std.proofs.lemmas.List.{length-set, map-append}
use Rattle.std.proofs.lemmas.Map.Iter.{iter_end}
use Rattle.amo_telling.specs.declared.put.Put.{Put}
use Rattle.amo_telling.specs.Untold.{AreTalliesOf}
use Rattle.amo_telling.proofs.Settling.{read_pair}
use Rattle.amo_telling.proofs.Tallies.{known_so, one_noted}
use Rattle.amo_telling.proofs.untold.Untold.tallies.Goals as goal

pub loop-number-preserved : goal.loop-number-preserved
loop-number-preserved c =
    let so_far = c.loop-number.invariant in
    let tallies = c.loop-number.tallies.items in
    let put = c.in-Some.put.now in
    record {
      all = length-set tallies (put.stream - 1) c.note.new.self ∙ so_far.all;
      known = subst (λ (puts : List (ℕ × Put)). AreTalliesOf c.args.self.now.followers puts c.args.doubts.now (set tallies (put.stream - 1) c.note.new.self))
          (sym (map-append read_pair c.loop-number.yielded ((c.in-Some.number, c.in-Some.put) ∷ [])))
          (one_noted c.args.self.now.followers (map read_pair c.loop-number.yielded) c.args.doubts.now tallies c.in-Some.number.now put c.outcome-outcome.result c.index_mut.result.now c.note.new.self
          (known_so c.args.self.now.followers put c.outcome-outcome.result c.outcome-outcome.ensures.none c.outcome-outcome.ensures.some) put.named so_far.all c.index_mut.ensures.value
          (rw c.told_of-told.ensures at c.note.ensures) so_far.known);
    }

pub returns-clause-known : goal.returns-clause-known
returns-clause-known c =
    let entries = c.args.self.now.puts.entries in
    let ended = iter_end read_pair entries c.loop-number.yielded c.into_iter-number-iterator.result c.loop-number.number-iterator c.next.new.self c.next.result
    (c.into_iter-number-iterator.ensures.into_iter_gives ∙ c.iter-number-items.ensures.rest) c.loop-number.yielded_by c.in-None.is c.next.ensures.steps in
    subst (λ (puts : List (ℕ × Put)). AreTalliesOf c.args.self.now.followers puts c.args.doubts.now c.loop-number.tallies.items) ended.0 c.loop-number.invariant.known
