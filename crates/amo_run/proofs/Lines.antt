-- The events of a book that ended have lines in a journal.
use Rattle.std.proofs.Common.{◌≡◌, ℕ, ◌<◌, List, [], ◌∷◌, map, reverse, slice_index_or, sym, subst, arith}
use Rattle.std.specs.List.{All}
use Rattle.std.specs.List.Sorted.{IsPermutation}
use Rattle.std.proofs.lemmas.List.Elements.{All-nil, All-cons, All-map}
use Rattle.std.proofs.lemmas.List.Sorted.{All-permutation, IsPermutation-reverse}
use Rattle.amo_object.specs.declared.step.End.{End}
use Rattle.amo_world.specs.declared.event.Event.{Event}
use Rattle.amo_book.specs.Book.{BookState, IsLawful, Opens}
use Rattle.amo_book.specs.Charge.{ChargeState}
use Rattle.amo_book.specs.Pass.{PassState}
use Rattle.amo_book.specs.Rule.{AllBelow}
use Rattle.amo_journal.specs.declared.version.Version.{Version}
use Rattle.amo_journal.specs.Journal.{CanSpell}
use Rattle.amo_run.specs.Fits.{Fits, AllFit}

below_all : (n : ℕ) (history : List Event) → AllBelow n history → All (λ (e : Event). e.pass < n) history
below_all n [] h = All-nil (λ (e : Event). e.pass < n)
below_all n (e ∷ past) h = All-cons (λ (x : Event). x.pass < n) e past h.0 (below_all n past h.1)

line : (version : Version) (may_be : Event → Type 0) (b : BookState) (e : Event) → IsLawful b.sides b.passes → Fits version b.sides may_be e → e.pass < b.passes → CanSpell version e
line version may_be b e lawful fits below = let many = lawful.many in record {
  pass = omega arith;
  stream = lawful.sides_are.streams fits.place e.side e.stream fits.at;
  act = fits.act;
  reply = fits.reply;
}

pub all_lines : (version : Version) (may_be : Event → Type 0) (b : BookState) (history events : List Event) (placed sorted : List (ℕ × Event)) → IsLawful b.sides b.passes → AllFit version b.sides may_be placed → IsPermutation placed sorted
    → events ≡ map (λ (one : ℕ × Event). one.1) sorted → events ≡ reverse history → AllBelow b.passes history → All (CanSpell version) events
all_lines version may_be b history events placed sorted lawful fit moved bare in_order below =
    let fits : All (Fits version b.sides may_be) events = subst (All (Fits version b.sides may_be)) (sym bare) (All-map (Fits version b.sides may_be) (λ (one : ℕ × Event). one.1) sorted (All-permutation (λ (one : ℕ × Event). Fits version b.sides may_be one.1) placed sorted moved fit)) in
    let passes : All (λ (e : Event). e.pass < b.passes) events = subst (All (λ (e : Event). e.pass < b.passes)) (sym in_order) (All-permutation (λ (e : Event). e.pass < b.passes) history (reverse history) (IsPermutation-reverse history) (below_all b.passes history below)) in
    λ k d lt. line version may_be b (slice_index_or events k d) lawful (fits k d lt) (passes k d lt)

pub no_lines : (version : Version) (events : List Event) → events ≡ [] → All (CanSpell version) events
no_lines version events none = subst (All (CanSpell version)) (sym none) (All-nil (CanSpell version))

-- a book that was opened with sides that it may have
pub lawful_book : (sides : List (End × ℕ)) (n : ℕ) (b : BookState) (passes : List PassState) (charges : List ChargeState) → Opens sides n b passes charges → IsLawful sides n → IsLawful b.sides b.passes
lawful_book sides n b passes charges o lawful = subst (λ (l : List (End × ℕ)). IsLawful l b.passes) (sym o.sides_are) (subst (λ (m : ℕ). IsLawful sides m) (sym o.passes_are) lawful)
