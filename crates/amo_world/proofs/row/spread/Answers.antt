use Rattle.std.proofs.Common.{rules, arith, ◌≡◌, ◌%◌, ℕ, Some, List, length, slice_get, refl, sym, subst}
use Rattle.std.proofs.Math.Nat.{mod-lt}
use Rattle.std.proofs.lemmas.Option.{slice_get_read}
use Rattle.amo_world.specs.declared.row.Row.{Row}
use Rattle.amo_world.specs.Row.{IsShare}
use Rattle.amo_world.proofs.Rows.{HasShares, share_pushed, spread_whole}
use Rattle.amo_world.proofs.row.spread.Goals as goal

pub loop-spread-preserved : goal.loop-spread-preserved
loop-spread-preserved c =
    let (few, room, twice, some, shares) = c.loop-spread.invariant in
    let rows = c.args.rows.now in
    let from = c.index-rows-number.result in
    let number : c.len-number.result ≡ length c.loop-spread.spread.items = search rules in
    let at = slice_get_read rows (length rows) (c.len-number.result % length rows) from refl (mod-lt c.len-number.result some) c.index-rows-number.is in (
      search rules,
      search rules,
      twice,
      some,
      subst (λ (s : List Row). HasShares rows c.in_ok-count.count s) (sym c.push_reserved.ensures.items)
          (share_pushed rows c.loop-spread.spread.items c.in_ok-count.count from c.share.result shares
          (subst (λ (n : ℕ). slice_get rows (n % length rows) ≡ Some from) number at)
          (subst (λ (n : ℕ). IsShare from n c.in_ok-count.count c.share.result) number c.share.ensures)),
    )

pub returns : goal.returns
returns c =
    let (few, room, twice, some, shares) = c.loop-spread.invariant in
    spread_whole c.args.rows.now c.loop-spread.spread.items c.in_ok-count.count some twice (omega (arith, few, c.loop-spread-test.false, c.len.ensures)) shares
