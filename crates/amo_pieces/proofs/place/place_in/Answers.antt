use Rattle.std.proofs.Common.{◌≡◌, ◌-◌, true, false, refl, sym, ◌∙◌, arith, length}
use Rattle.std.proofs.lemmas.List.{length-take}
use Rattle.amo_pieces.proofs.Starts.{begins_here, no_pieces, tells_of_all, tells_of_fewer}
use Rattle.amo_pieces.proofs.place.place_in.Goals as goal

pub starts-init : goal.starts-init
starts-init c = (tells_of_all c.args.line c.args.starts.now, omega arith)

pub returns-then-is_before-clause-found : goal.returns-then-is_before-clause-found
returns-then-is_before-clause-found c =
    let before = c.is_before.ensures.0 c.if-is_before.true in
    c.starts.invariant.0.found _ (begins_here c.args.line c.starts.rest.now c.start-item.result _ c.start-item.is c.in-len1-up.len_at_least before.0 before.1 refl refl)

pub starts-preserved : goal.starts-preserved
starts-preserved c =
    let fewer = length-take (length c.starts.rest.now - 1) c.starts.rest.now in
    let before = c.starts.invariant.1 in (
      tells_of_fewer c.args.line c.args.starts.now c.starts.rest.now c.start-item.result c.start-item.is c.in-len1-up.len_at_least
          (λ both. let no : true ≡ false = sym (c.is_before.ensures.1 both) ∙ c.if-is_before.false in cc) c.starts.invariant.0,
      omega (arith, fewer, before),
    )

pub returns-clause-none : goal.returns-clause-none
returns-clause-none c = c.starts.invariant.0.none (no_pieces c.args.line c.starts.rest.now c.in_default.len_below)
