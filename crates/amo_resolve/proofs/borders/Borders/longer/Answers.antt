use Rattle.std.proofs.Common.{arith}
use Rattle.amo_resolve.proofs.Bordering.{looking_start, looking_on, longer_none, longer_found, longest_at}
use Rattle.amo_resolve.proofs.Planning.{never}
use Rattle.amo_resolve.proofs.borders.Borders.longer.Goals as goal

pub loop-end-init : goal.loop-end-init
loop-end-init c = record {
  looking = looking_start c.args.got.now c.args.end c.args.limit c.args.few c.args.message.now c.requires.few.0;
  known = c.requires.few.1;
}

pub returns-then-border-eq0 : goal.returns-then-border-eq0
returns-then-border-eq0 c =
    longer_none c.args.got.now c.args.end c.args.limit c.args.few c.args.message.now c.loop-end.border c.loop-end.invariant.looking (omega (arith, c.if-border-eq0.true))
    (λ both. never c.comes_before.result c.loop-end-test.true (c.comes_before.ensures.1 both))

pub loop-end-smaller : goal.loop-end-smaller
loop-end-smaller c =
    (longest_at c.args.got.now c.args.end c.args.self.now.lengths.items c.loop-end.border c.index-border.result.now c.requires.borders (omega (arith, c.if-border-eq0.false)) c.loop-end.invariant.known c.index-border.ensures).proper

pub loop-end-preserved : goal.loop-end-preserved
loop-end-preserved c =
    let longest = longest_at c.args.got.now c.args.end c.args.self.now.lengths.items c.loop-end.border c.index-border.result.now c.requires.borders (omega (arith, c.if-border-eq0.false)) c.loop-end.invariant.known c.index-border.ensures in
    record {
      looking = looking_on c.args.got.now c.args.end c.args.limit c.args.few c.args.message.now c.loop-end.border c.index-border.result.now c.loop-end.invariant.looking
          (λ both. never c.comes_before.result c.loop-end-test.true (c.comes_before.ensures.1 both)) longest;
      known = omega (arith, longest.proper, c.loop-end.invariant.known);
    }

pub returns : goal.returns
returns c =
    let both = c.comes_before.ensures.0 c.loop-end-test.false in
    longer_found c.args.got.now c.args.end c.args.limit c.args.few c.args.message.now c.loop-end.border c.requires.end.0 c.requires.end.1 c.loop-end.invariant.looking both.0 both.1
