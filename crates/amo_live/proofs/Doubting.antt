-- Which streams are in doubt.
use Rattle.std.proofs.Common.{◌≡◌, ◌∙◌, ℕ, zero, suc, ◌<◌, ◌≤◌, ◌-◌, false, Option, Some, None, List, map, length, get_or, set, sym, ap, subst, arith, Bor}
use Rattle.std.specs.Option.{IfSome, MatchOption, option_copied}
use Rattle.std.proofs.lemmas.List.{get_or-map, get_or-set_same, length-set}
use Rattle.amo_live.specs.declared.service.Lane.{Lane}
use Rattle.amo_live.specs.Service.{doubted}

-- whether a stream is in doubt is what its lane says
lane_says : (lanes : List Lane) (stream place : ℕ) (lane : Lane) → 1 ≤ stream → place ≡ stream - 1 → place < length lanes → doubted lanes stream ≡ (get_or lanes place lane).in_doubt
lane_says lanes zero place lane here is within = absurd (omega (arith, here))
lane_says lanes (suc number) place lane here is within =
    let one : number ≡ place = omega (arith, is) in
    ap (λ (n : ℕ). get_or (map (λ (l : Lane). l.in_doubt) lanes) n false) one ∙ get_or-map (λ (l : Lane). l.in_doubt) lanes place lane false within

-- of a lane that was found
pub found_says : (A : Type 0) (P : Bor Lane → Type 0) (lanes : List Lane) (stream place : ℕ) (found : Option (Bor Lane)) → 1 ≤ stream → place ≡ stream - 1 → IfSome found (λ lane. lane.now ≡ get_or lanes place lane.now)
    → MatchOption found A (λ lane. (place < length lanes) × P lane) → IfSome (option_copied found) (λ lane. lane.in_doubt ≡ doubted lanes stream)
found_says A P lanes stream place None here is reads within = tt
found_says A P lanes stream place (Some lane) here is reads within = ap (λ (l : Lane). l.in_doubt) reads ∙ sym (lane_says lanes stream place lane.now here is within.0)

-- and of one that was put in its place
pub set_says : (lanes : List Lane) (stream place : ℕ) (lane : Lane) → 1 ≤ stream → place ≡ stream - 1 → place < length lanes → doubted (set lanes place lane) stream ≡ lane.in_doubt
set_says lanes stream place lane here is within =
    lane_says (set lanes place lane) stream place lane here is (subst (λ (n : ℕ). place < n) (sym (length-set lanes place lane)) within) ∙ ap (λ (l : Lane). l.in_doubt) (get_or-set_same lanes place lane lane within)
