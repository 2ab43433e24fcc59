use Rattle.std.proofs.Common.{◌+◌, ◌∷◌, [], List, ℕ, length, sym, subst, ap, arith}
use Rattle.std.proofs.lemmas.List.{length-take, length-append}
use Rattle.amo_resolve.specs.Plan.{AreBorders}
use Rattle.amo_resolve.proofs.Bordering.{borders_more, borders_fewer}
use Rattle.amo_resolve.proofs.borders.Borders.fit.Goals as goal

pub returns-then-here-len-clause-borders : goal.returns-then-here-len-clause-borders
returns-then-here-len-clause-borders c =
    subst (λ (items : List ℕ). AreBorders c.args.got.now c.args.end items) (sym c.truncate.ensures.items)
    (borders_fewer c.args.got.now c.args.end c.args.self.now.lengths.items (c.args.here + 1) c.requires.borders)

pub returns-then-here-len-clause-length : goal.returns-then-here-len-clause-length
returns-then-here-len-clause-length c = omega (arith, ap length c.truncate.ensures.items, length-take (c.args.here + 1) c.args.self.now.lengths.items, c.if-here-len.true, c.len.ensures)

pub returns-clause-borders : goal.returns-clause-borders
returns-clause-borders c =
    subst (λ (items : List ℕ). AreBorders c.args.got.now c.args.end items) (sym c.in_ok-push.ensures.items)
    (borders_more c.args.got.now c.args.end c.args.self.now.lengths.items c.next-longest.result c.requires.borders (λ some. c.next-longest.ensures))

pub returns-clause-length : goal.returns-clause-length
returns-clause-length c = omega (arith, ap length c.in_ok-push.ensures.items, length-append c.args.self.now.lengths.items (c.next-longest.result ∷ []), c.if-here-len.false, c.len.ensures, c.requires.within.1)
