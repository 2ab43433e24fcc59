use Rattle.std.proofs.Common.{◌≡◌, false, true, arith}
use Rattle.amo_audit.proofs.Marked.{met}
use Rattle.amo_audit.proofs.marking.SideSet.meets.Goals as goal

pub returns : goal.returns
returns c = λ x y marks marks' known known'. (
  (λ wrong. let no : false ≡ true = wrong in cc),
  λ shares.
      let (place, small, p, q) = met c.args.self.now.has c.args.other.now.has x y marks marks' known known' shares in
      absurd (c.loop-place.invariant place (omega (arith, small, c.loop-place-test.false)) p q),
)
