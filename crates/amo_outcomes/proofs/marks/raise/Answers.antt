use Rattle.std.proofs.Common.{◌≡◌, ◌+◌, Some, length, slice_get, set, rules, refl, sym, subst, arith}
use Rattle.std.proofs.lemmas.Option.{slice_get_read}
use Rattle.amo_outcomes.specs.declared.marks.Mark.{Mark}
use Rattle.amo_outcomes.specs.Marks.{AreRaised}
use Rattle.amo_outcomes.proofs.Marking.{nothing_raised, one_more_raised, all_raised}
use Rattle.amo_outcomes.proofs.marks.raise.Goals as goal

pub loop-put-init : goal.loop-put-init
loop-put-init c = (nothing_raised c.args.mark c.args.run.first c.args.marks.now.items, λ put low less. absurd (omega (arith, low, less)), omega arith)

pub loop-put-preserved : goal.loop-put-preserved
loop-put-preserved c =
    let now = c.loop-put.marks.items in
    let put = c.loop-put.put in
    let there : slice_get now put ≡ Some c.index.result.now = slice_get_read now (length now) put c.index.result.now refl (search rules) c.index.ensures in (
      subst (λ (m : Mark). AreRaised c.args.mark (record { first = c.args.run.first; end = put + 1 }) c.args.marks.now.items (set now put m))
          (sym c.raised.ensures)
          (one_more_raised c.args.mark c.args.run.first put c.args.marks.now.items now c.index.result.now c.loop-put.invariant.2 there c.loop-put.invariant.0),
      λ k low less. omega (arith, low, less, c.loop-put-test.true),
      omega (arith, c.loop-put.invariant.2),
    )

pub returns : goal.returns
returns c =
    all_raised c.args.mark c.args.run c.loop-put.put c.args.marks.now.items c.loop-put.marks.items
    (λ put is within. omega (arith, is.0, is.1, within))
    c.loop-put.invariant.1 c.loop-put.invariant.0
