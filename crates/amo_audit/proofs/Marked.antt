-- What two lists of marks say of two lists of events.
use Rattle.std.proofs.Common.{◌≡◌, ℕ, zero, suc, ◌<◌, Bool, true, false, List, [], get_or, refl, sym, ◌∙◌, arith}
use Rattle.std.specs.Prelude.{IsTrue, replicate}
use Rattle.std.proofs.lemmas.List.Elements.{All-contains}
use Rattle.std.specs.List.{All}
use Rattle.amo_world.specs.declared.event.Event.{Event}
use Rattle.amo_world.specs.Stream.{IsStream}
use Rattle.amo_audit.specs.Marks.{Marks, place_of}
use Rattle.amo_audit.specs.Merge.{SharesSide}
use Rattle.amo_audit.proofs.Places.{same_side, same_place, place_below}

all_false : (n i : ℕ) → get_or (replicate n false) i false ≡ false
all_false zero i = refl
all_false (suc n) zero = refl
all_false (suc n) (suc i) = all_false n i

-- nothing is marked
pub none_marked : (n : ℕ) → Marks (replicate n false) []
none_marked n place = ((λ now. let no : true ≡ false = sym now ∙ all_false n place in cc), λ (e, (i, small, is), at). absurd (omega (arith, small)))

module _ (first second : List Bool) (x y : List Event) (marks : Marks first x) (marks' : Marks second y) (known : All (λ e. IsStream e.stream) x) (known' : All (λ e. IsStream e.stream) y) where
  pub meets : (place : ℕ) → IsTrue (get_or first place false) → IsTrue (get_or second place false) → SharesSide x y
  meets place p q =
      let (a, there, at) = (marks place).0 p in
      let (b, there', at') = (marks' place).0 q in
      let same = same_side a b (All-contains (λ e. IsStream e.stream) x a known there) (All-contains (λ e. IsStream e.stream) y b known' there') (at ∙ sym at') in
      (a, b, there, there', same.0, same.1)

  pub met : SharesSide x y → (place : ℕ) × (place < 512) × IsTrue (get_or first place false) × IsTrue (get_or second place false)
  met (a, b, there, there', stream, side) =
      (place_of a, place_below a (All-contains (λ e. IsStream e.stream) x a known there), (marks (place_of a)).1 (a, there, refl), (marks' (place_of a)).1 (b, there', sym (same_place a b stream side)))
