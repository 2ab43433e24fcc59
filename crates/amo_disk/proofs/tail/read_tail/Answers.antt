use Rattle.std.proofs.Common.{◌∙◌, [], inl, inr, refl, sym, subst, arith}
use Rattle.amo_disk.specs.Tail.{HasNone, TakesFront}
use Rattle.amo_disk.proofs.Longest.{too_long}
use Rattle.amo_disk.proofs.Tails.{all_taken, line_taken, none_cut, none_next, rest_within, some_cut}
use Rattle.amo_disk.proofs.tail.read_tail.Goals as goal
use Rattle.amo_disk.proofs.tail.read_tail.Goals.{then-is_some-via-then-is_some, then-is_some-via-else-is_some+then-lines-gt-LONGEST_LINE}

pub loop-more-preserved : goal.loop-more-preserved
loop-more-preserved c =
    let h = c.loop-more.invariant in let taken = rw c.in-Some.is at c.in_ok-more.ensures.some in (
      line_taken c.args.version c.args.side c.args.first c.args.text.now c.loop-more.lines.text.now c.in-Some.more.text.now c.loop-more.last c.in-Some.now
          (subst (λ v. TakesFront v c.args.side c.loop-more.lines.text.now c.loop-more.last c.in-Some.more.text.now c.in-Some.now) h.1 taken.1) h.0,
      taken.0 ∙ h.1,
    )

pub returns-then-is_some-clause-fault : goal.returns-then-is_some-clause-fault
returns-then-is_some-clause-fault c =
    let h = c.loop-more.invariant in let rest = c.loop-more.lines.text.now in
    none_next c.args.version c.args.side c.args.first c.args.text.now rest c.loop-more.last h.0 (subst (λ v. HasNone v rest) h.1 (rw c.in_default.is at c.in_ok-more.ensures.none)) (
    elim c.then-is_some.branch [
      | then-is_some-via-then-is_some w ↦ inl (some_cut rest c.next_line.result (sym c.is_some.ensures ∙ w.if-is_some.true) c.next_line.ensures.found)
      | then-is_some-via-else-is_some+then-lines-gt-LONGEST_LINE w ↦ inr (too_long [] rest (omega (arith, w.if-lines-gt-LONGEST_LINE.true)))
    ]
    )

pub returns-clause-tail : goal.returns-clause-tail
returns-clause-tail c =
    let h = c.loop-more.invariant in let rest = c.loop-more.lines.text.now in
    let within = rest_within c.args.version c.args.side c.args.first c.args.text.now rest c.loop-more.last h.0 in
    all_taken c.args.version c.args.side c.args.first c.args.text.now rest c.loop-more.last _ h.0 (none_cut rest c.next_line.result (sym c.is_some.ensures ∙ c.if-is_some.false) c.next_line.ensures.none) refl (omega (arith, within)) c.streams.ensures
