use Rattle.std.proofs.Common.{◌-◌, ◌∙◌, [], length, arith}
use Rattle.std.proofs.lemmas.List.{get_or_default}
use Rattle.amo_resolve.proofs.Bordering.{longest_at, longest_first, longest_more}
use Rattle.amo_resolve.proofs.borders.Borders.next.Goals as goal

pub returns-then-here-eq0 : goal.returns-then-here-eq0
returns-then-here-eq0 c = longest_first c.args.got.now c.args.end (length c.args.self.now.lengths.items) (omega (arith, c.if-here-eq0.true, c.len-count.ensures, c.requires.within.0))

pub longer-requires-clause-few : goal.longer-requires-clause-few
longer-requires-clause-few c =
    let l = longest_at c.args.got.now c.args.end c.args.self.now.lengths.items (c.len-count.result - 1) c.index-few.result.now c.requires.borders (omega (arith, c.if-here-eq0.false)) (omega (arith, c.len-count.ensures, c.requires.within.0)) c.index-few.ensures in
    (omega (arith, l.proper), omega (arith, l.proper, c.len-count.ensures, c.requires.within.0))

pub returns : goal.returns
returns c =
    let l = longest_at c.args.got.now c.args.end c.args.self.now.lengths.items (c.len-count.result - 1) c.index-few.result.now c.requires.borders (omega (arith, c.if-here-eq0.false)) (omega (arith, c.len-count.ensures, c.requires.within.0)) c.index-few.ensures in
    longest_more c.args.got.now c.args.end (c.len-count.result - 1) c.index-few.result.now c.longer.result (length c.args.self.now.lengths.items) c.at-message.result.now
    (omega (arith, c.len-count.ensures, c.requires.within.0)) (omega (arith, c.len-count.ensures, c.requires.within.0, c.requires.within.1)) c.requires.within.2
    (c.at-message.ensures ∙ get_or_default c.args.got.now (c.args.end - 1 - (c.len-count.result - 1)) c.at-message.result.now [] (omega (arith, c.len-count.ensures, c.requires.within.0, c.requires.within.1, c.requires.within.2)))
    l c.longer.ensures
