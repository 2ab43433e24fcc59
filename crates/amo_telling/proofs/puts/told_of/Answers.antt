use Rattle.std.proofs.Common.{◌≡◌, ◌∙◌, ◌⊎◌, ℕ, List, [], true, false, ap, sym, length, inl, inr, arith}
use Rattle.std.specs.Prelude.{◌==◌}
use Rattle.amo_telling.specs.Outcomes.{by}
use Rattle.amo_telling.proofs.LineByLine.{all_told, begins, empty_is, line_there, none_left, one_line_told}
use Rattle.amo_telling.proofs.PutLines.{nothing_told}
use Rattle.amo_telling.proofs.puts.told_of.Goals.{then-loop-number-test+else-not-is_empty, else-loop-number-test}
use Rattle.amo_telling.proofs.puts.told_of.Goals as goal

differ : true ≡ false → ⊥
differ e = cc

pub loop-number-init : goal.loop-number-init
loop-number-init c =
    let manner = by c.args.report.choice c.args.report.doubts.now in
    begins manner c.args.listing c.args.lines.version c.args.lines.text.now c.end_of-end.result c.requires.0 _ c.new-told.result.items c.requires.1
    (nothing_told manner c.args.listing c.new-told.result.items [] c.new-told.ensures.items)

pub unreachable-requires : goal.unreachable-requires
unreachable-requires c =
    let manner = by c.args.report.choice c.args.report.doubts.now in
    let none = none_left manner c.args.listing c.args.lines.version c.args.lines.text.now c.end_of-end.result c.loop-number.rest.now c.loop-number.number _ c.loop-number.told.items c.loop-number.invariant c.in_default.ensures.none in
    differ (sym (c.if-not-is_empty.ensures ∙ ap (λ (t : List ℕ). length t == 0) none))

pub tell_line-requires-clause-line : goal.tell_line-requires-clause-line
tell_line-requires-clause-line c =
    let manner = by c.args.report.choice c.args.report.doubts.now in
    let found = c.in-Some.ensures.found in
    line_there manner c.args.listing c.args.lines.version c.args.lines.text.now c.end_of-end.result c.loop-number.rest.now c.loop-number.number _ c.loop-number.told.items c.loop-number.invariant
    c.in-Some.line.now c.in-Some.more.now found.0 found.1

pub loop-number-preserved : goal.loop-number-preserved
loop-number-preserved c =
    let manner = by c.args.report.choice c.args.report.doubts.now in
    let found = c.in-Some.ensures.found in
    one_line_told manner c.args.listing c.args.lines.version c.args.lines.text.now c.end_of-end.result c.loop-number.rest.now c.loop-number.number _ c.loop-number.told.items c.loop-number.invariant
    c.in-Some.line.now c.in-Some.more.now _ c.tell_line.new.text.items found.0 found.1 c.loop-number-test.true c.in_ok-tell_line.ensures

pub returns : goal.returns
returns c =
    let manner = by c.args.report.choice c.args.report.doubts.now in
    let to = c.loop-number.invariant in
    let stops : (c.loop-number.number ≡ c.end_of-end.result) ⊎ (c.loop-number.rest.now ≡ []) = elim c.loop-number-test.branch [
      | then-loop-number-test+else-not-is_empty w ↦ inr (empty_is c.loop-number.rest.now (sym w.if-not-is_empty.ensures))
      | else-loop-number-test w ↦ inl (omega (arith, w.loop-number-test.false, to.within))
    ] in
    all_told manner c.args.listing c.args.lines.version c.args.lines.text.now c.end_of-end.result c.loop-number.rest.now c.loop-number.number _ c.loop-number.told.items to
    c.args.ends c.end_of-end.ensures (omega (arith, c.ranges.lines.1)) stops
