-- What is kept of the puts of earlier lives goes with the lines that were read.
use Rattle.std.proofs.Common.{◌≡◌, ℕ, zero, suc, ◌+◌, ◌-◌, ◌<◌, ◌≤◌, ◌^◌, ◌==◌, ◌&&◌, Bool, true, false, Option, Some, None, List, [], ◌∷◌, ◌++◌, length, set, get_or, slice_get, refl, sym, ◌∙◌, ap, subst, inl, inr, ◌⊎◌, arith, if◌then◌else◌}
use Rattle.std.specs.List.{list_any}
use Rattle.std.proofs.lemmas.Bool.{eqb-true, eq-eqb}
use Rattle.std.proofs.lemmas.List.{append-nil, length-append}
use Rattle.std.proofs.lemmas.Option.{slice_get_read}
use Rattle.amo_journal.specs.declared.numbered.Numbered.{Numbered}
use Rattle.amo_lives.specs.declared.doubt.Span.{Span}
use Rattle.amo_lives.specs.declared.life.Life.{Life}
use Rattle.amo_world.specs.Stream.{IsStream}
use Rattle.amo_world.proofs.Lists.{set_cases}
use Rattle.amo_archive.specs.declared.lane.Lane.{Lane}
use Rattle.amo_archive.specs.declared.lane.Owner.{Owner}
use Rattle.amo_archive.specs.declared.past.Reign.{Reign}
use Rattle.amo_archive.specs.Lane.{owners_in}
use Rattle.amo_archive.specs.Reign.{holds, is_taken, owner_by, owners_of, reign_after}

-- an owner, or none
abbrev owner_if : List Span → Reign → Numbered → Bool → List Owner
owner_if doubts reign line b = if b then (record { life = reign.life; is_doubtful = list_any (holds line.number) doubts } ∷ []) else []

both_false : (a b : Bool) → b ≡ false → a && b ≡ false
both_false true b none = none
both_false false b none = refl

-- a line that says of no put that it was taken
pub nothing_by : (doubts : List Span) (stream : ℕ) (reign : Reign) (line : Numbered) → is_taken line.event.act line.event.reply ≡ false → owner_by doubts stream reign line ≡ []
nothing_by doubts stream reign line none = ap (owner_if doubts reign line) (both_false (line.event.stream == stream) (is_taken line.event.act line.event.reply) none)

module _ (doubts : List Span) (reign : Reign) (line : Numbered) (lanes : List Lane) where
  abbrev pub Counted : List Lane → Type 0
  Counted after = (place : ℕ) (kept : Lane) → slice_get after place ≡ Some kept → (lane : Lane) × (slice_get lanes place ≡ Some lane) × (owners_in kept ≡ owners_in lane ++ owner_by doubts (place + 1) reign line)

  -- where no put was taken
  pub none_counted : is_taken line.event.act line.event.reply ≡ false → Counted lanes
  none_counted none place kept at = (kept, at, sym (ap (λ (l : List Owner). owners_in kept ++ l) (nothing_by doubts (place + 1) reign line none) ∙ append-nil (owners_in kept)))

  -- where one was
  pub one_counted : (old new : Lane) → IsStream line.event.stream → length lanes ≡ 256 → old ≡ get_or lanes (line.event.stream - 1) old → is_taken line.event.act line.event.reply ≡ true
      → owners_in new ≡ owners_in old ++ record { life = reign.life; is_doubtful = list_any (holds line.number) doubts } ∷ [] → Counted (set lanes (line.event.stream - 1) new)
  one_counted old new ranged all at taken is place kept has = by (set_cases lanes (line.event.stream - 1) new place kept has)
    where
      one : (b : Bool) → b ≡ true → owner_if doubts reign line (b && is_taken line.event.act line.event.reply) ≡ record { life = reign.life; is_doubtful = list_any (holds line.number) doubts } ∷ []
      one true b = ap (owner_if doubts reign line) taken
      one false b = cc

      none : (b : Bool) → b ≡ false → owner_if doubts reign line (b && is_taken line.event.act line.event.reply) ≡ []
      none true b = cc
      none false b = refl

      other : (b : Bool) → (line.event.stream == (place + 1)) ≡ b → (line.event.stream - 1 ≡ place → ⊥) → (line.event.stream == (place + 1)) ≡ false
      other true eq apart = absurd (apart (omega (arith, eqb-true line.event.stream (place + 1) eq)))
      other false eq apart = eq

      by : ((line.event.stream - 1 ≡ place) × (new ≡ kept)) ⊎ ((line.event.stream - 1 ≡ place → ⊥) × (slice_get lanes place ≡ Some kept))
          → (lane : Lane) × (slice_get lanes place ≡ Some lane) × (owners_in kept ≡ owners_in lane ++ owner_by doubts (place + 1) reign line)
      by (inl (here, same)) =
          let number : line.event.stream ≡ place + 1 = omega (arith, here, ranged.0) in (
            old,
            subst (λ (n : ℕ). slice_get lanes n ≡ Some old) here (slice_get_read lanes 256 (line.event.stream - 1) old (sym all) (omega (arith, ranged.0, ranged.1)) at),
            sym (ap owners_in same) ∙ (is ∙ ap (λ (l : List Owner). owners_in old ++ l) (sym (one (line.event.stream == (place + 1)) (eq-eqb line.event.stream (place + 1) number)))),
          )
      by (inr (apart, there)) =
          let not_here = other (line.event.stream == (place + 1)) refl apart in
          (kept, there, sym (ap (λ (l : List Owner). owners_in kept ++ l) (none (line.event.stream == (place + 1)) not_here) ∙ append-nil (owners_in kept)))

-- a line says of one put at most that it was taken
few_by : (doubts : List Span) (reign : Reign) (line : Numbered) (b : Bool) → length (owner_if doubts reign line b) ≤ 1
few_by doubts reign line true = omega arith
few_by doubts reign line false = omega arith

pub few_owners : (lives : List Life) (doubts : List Span) (stream : ℕ) (lines : List Numbered) → length (owners_of lives doubts stream lines) ≤ length lines
few_owners lives doubts stream [] = omega arith
few_owners lives doubts stream (line ∷ past) =
    let reign = reign_after lives (line ∷ past) in
    let one = few_by doubts reign line ((line.event.stream == stream) && is_taken line.event.act line.event.reply) in
    omega (arith, length-append (owners_of lives doubts stream past) (owner_by doubts stream reign line), few_owners lives doubts stream past, one)

-- the owners of the puts of a stream, as its lane keeps them
pub owners_at : (lives : List Life) (doubts : List Span) (lines : List Numbered) (lanes : List Lane) (stream : ℕ) (lane : Lane) → IsStream stream → length lanes ≡ 256 → lane ≡ get_or lanes (stream - 1) lane
    → ((place : ℕ) (kept : Lane) → slice_get lanes place ≡ Some kept → owners_in kept ≡ owners_of lives doubts (place + 1) lines) → owners_in lane ≡ owners_of lives doubts stream lines
owners_at lives doubts lines lanes stream lane ranged all at each =
    let number : stream - 1 + 1 ≡ stream = omega (arith, ranged.0, ranged.1) in
    each (stream - 1) lane (slice_get_read lanes 256 (stream - 1) lane (sym all) (omega (arith, ranged.0, ranged.1)) at) ∙ ap (λ (n : ℕ). owners_of lives doubts n lines) number
