use Rattle.std.proofs.Common.{[], ◌∙◌, ap, refl, arith}
use Rattle.std.specs.Prelude.{is_some}
use Rattle.amo_audit.proofs.Together.{begin, whole_has, none_next_then, is_none}
use Rattle.amo_audit.proofs.Entries.{moved, left_taken, right_taken, all_taken}
use Rattle.amo_audit.proofs.Stopped.{ends}
use Rattle.amo_audit.proofs.merging.merge_into.Goals as goal
use Rattle.amo_audit.proofs.merging.merge_into.Goals.{then-is_some, else-is_some+then-is_some-2, in-Taken, in-Waits+in_ok-now-in-Waits+in-Taken-2}

pub loop-right-init : goal.loop-right-init
unfolding begin
loop-right-init g c =
    let (x, y, p, q, apart) = c.requires.apart in
    record {
      past = [];
      counted = refl;
      held = c.requires.site;
      going = begin c.args.first c.args.second c.in_ok-left.left.next c.in_ok-left.left.rest c.in_ok-right.right.next c.in_ok-right.right.rest x y p q apart
          (c.in_ok-left.ensures.coming x (whole_has c.args.first x p)) (c.in_ok-right.ensures.coming y (whole_has c.args.second y q));
      of_first_is = refl;
      of_both = refl;
      left_stream = c.in_ok-left.ensures.stream;
      left_streams = c.in_ok-left.ensures.streams;
      right_stream = c.in_ok-right.ensures.stream;
      right_streams = c.in_ok-right.ensures.streams;
      few = omega (arith, c.in_ok-left.ensures.fewer, c.in_ok-right.ensures.fewer);
    }

pub loop-right-preserved : goal.loop-right-preserved
loop-right-preserved g c =
    let so_far = c.loop-right.invariant in
    elim c.match-branch-4.branch [
      | in-Taken w ↦
          let (e, it) = rw w.in-Taken.is at (c.in_ok-now.ensures so_far.past so_far.counted so_far.held) in
          rw (w.site-is, w.left-is, w.right-is, w.of_first-is)
          (left_taken g.S.Site.HasTaken c.args.first c.args.second c.loop-right.site c.offer.new.site c.loop-right.taken c.loop-right.of_first c.loop-right.left.next c.loop-right.left.rest c.loop-right.right.next c.loop-right.right.rest so_far w.in-Taken.now e it)
      | in-Waits+in_ok-now-in-Waits+in-Taken-2 w ↦
          let (not, held, next, rest) = rw w.in-Waits.is at (c.in_ok-now.ensures so_far.past so_far.counted so_far.held) in
          let (e, it) = rw w.in-Taken-2.is at (w.in_ok-now-in-Waits.ensures so_far.past so_far.counted held) in
          rw (w.site-is, w.left-is, w.right-is, w.of_first-is)
          (moved g.S.Site.HasTaken c.args.first c.args.second w.offer-in-Waits.new.site _ _ _ _ _ _ _ _
          (right_taken g.S.Site.HasTaken c.args.first c.args.second c.loop-right.site w.offer-in-Waits.new.site c.loop-right.taken c.loop-right.of_first c.loop-right.left.next c.loop-right.left.rest c.loop-right.right.next c.loop-right.right.rest so_far
          w.in-Taken-2.now e not it) next rest)
    ]

pub returns-in-Waits-2 : goal.returns-in-Waits-2
returns-in-Waits-2 g c =
    let so_far = c.loop-right.invariant in
    let going = so_far.going in
    let (not, held, next, rest) = rw c.in-Waits.is at (c.in_ok-now.ensures so_far.past so_far.counted so_far.held) in
    let (not', held', next', rest') = rw c.in-Waits-2.is at (c.in_ok-now-in-Waits.ensures so_far.past so_far.counted held) in
    let has = c.is_some-in-Waits-2.ensures ∙ ap is_some next in
    let has' = c.is_some-in-Waits-2-2.ensures ∙ ap is_some next' in
    rw c.stopped.ensures
    (ends g.S.Site.HasTaken g.S.Site.MayEnd c.args.first c.args.second _ so_far.past c.loop-right.left.next c.loop-right.left.rest c.loop-right.right.next c.loop-right.right.rest going held' not not' _ _ _ _ has has'
    (λ p q. elim c.if-is_some.branch [
      | then-is_some w ↦ none_next_then _ _ c.is_some.ensures w.if-is_some.true p
      | else-is_some+then-is_some-2 w ↦ none_next_then _ _ w.is_some-else-is_some.ensures w.if-is_some-2.true q
    ])
    so_far.of_first_is
    (omega (arith, so_far.of_first_is, so_far.of_both)))

pub returns : goal.returns
returns g c =
    all_taken g.S.Site.HasTaken c.args.first c.args.second c.loop-right.site c.loop-right.taken c.loop-right.of_first c.loop-right.left.next c.loop-right.left.rest c.loop-right.right.next c.loop-right.right.rest c.loop-right.invariant
    (is_none _ _ c.is_some.ensures c.if-is_some.false) (is_none _ _ c.is_some-else-is_some.ensures c.if-is_some-2.false)
