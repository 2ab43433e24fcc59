-- Numbers of lines, one line more.
use Rattle.std.proofs.Common.{◌≡◌, ◌≢◌, ℕ, ◌+◌, Option, None, Some, List, [], ◌∷◌, ◌++◌, length, refl, sym, ◌∙◌, ap, subst, arith, append_assoc}
use Rattle.std.proofs.lemmas.List.{length-append}
use Rattle.amo_world.specs.declared.event.Event.{Event}
use Rattle.amo_journal.specs.declared.numbered.Numbered.{Numbered}
use Rattle.amo_journal.specs.declared.version.Version.{Version}
use Rattle.amo_journal.specs.Journal.{numbered, AreEvents, HasGap, IsGapAt, SpellsLines}
use Rattle.amo_journal.specs.Gathering.{Keeps, Gathers}

pub length_push : (lines : List Numbered) (l : Numbered) (count : ℕ) → count ≡ length lines → count + 1 ≡ length (lines ++ l ∷ [])
length_push lines l count is = ap (λ n. n + 1) is ∙ sym (length-append lines (l ∷ []))

pub length-numbered : (n : ℕ) (events : List Event) → length (numbered n events) ≡ length events
length-numbered n [] = refl
length-numbered n (e ∷ events) = let rest = length-numbered (n + 1) events in omega (arith, rest)

numbered_push : (n k : ℕ) (events : List Event) (l : Numbered) → k ≡ n + length events → l.number ≡ k → numbered n events ++ l ∷ [] ≡ numbered n (events ++ l.event ∷ [])
numbered_push n k [] l here is =
    let same : l.number ≡ n = omega arith in
    ap (λ (m : ℕ). line m ∷ []) same
  where
    line : ℕ → Numbered
    line m = record { number = m; event = l.event }
numbered_push n k (e ∷ events) l here is =
    ap (λ (t : List Numbered). record { number = n; event = e } ∷ t) (numbered_push (n + 1) k events l (omega arith) is)

module _ (lines : List Numbered) (events : List Event) (l : Numbered) (count : ℕ) (counted : count ≡ length lines) where
  -- the next number
  pub next_number : lines ≡ numbered 0 events → l.number ≡ count → lines ++ l ∷ [] ≡ numbered 0 (events ++ l.event ∷ [])
  next_number are is =
      let long = ap length are ∙ length-numbered 0 events in
      ap (λ (t : List Numbered). t ++ l ∷ []) are ∙ numbered_push 0 count events l (omega (arith, counted, long)) is

  -- another number
  pub gap_here : lines ≡ numbered 0 events → l.number ≢ count → IsGapAt (lines ++ l ∷ []) (count + 1)
  gap_here are other =
      let long = counted ∙ ap length are ∙ length-numbered 0 events in
      record {
        before = events;
        line = l;
        after = [];
        whole = ap (λ (t : List Numbered). t ++ l ∷ []) are;
        other = λ e. other (e ∙ sym long);
        count = ap (λ n. n + 1) long;
      }

-- a gap stays the first
pub gap_stays : (lines : List Numbered) (l : Numbered) (at : ℕ) → IsGapAt lines at → IsGapAt (lines ++ l ∷ []) at
gap_stays lines l at gap = record {
  before = gap.before;
  line = gap.line;
  after = gap.after ++ l ∷ [];
  whole = ap (λ (t : List Numbered). t ++ l ∷ []) gap.whole ∙ append_assoc (numbered 0 gap.before) (gap.line ∷ gap.after) (l ∷ []);
  other = gap.other;
  count = gap.count;
}

-- given what takes the events
module _ {T : Type 0} (HasTaken : T → List Event → Type 0) (taker : T) (count : ℕ) (gap : Option ℕ) (lines : List Numbered) (l : Numbered) (gathers : Gathers HasTaken taker count gap lines) where
  -- the event of the next line is taken
  pub event_taken : (now : T) → gap ≡ None → l.number ≡ count → ((past : List Event) → count ≡ length past → HasTaken taker past → HasTaken now (past ++ l.event ∷ [])) → Gathers HasTaken now (count + 1) gap (lines ++ l ∷ [])
  event_taken now none is takes =
      let keeps = subst (λ (g : Option ℕ). Keeps gathers.events g lines) none gathers.kept in
      record {
        events = gathers.events ++ l.event ∷ [];
        counted = length_push lines l count gathers.counted;
        kept = subst (λ (g : Option ℕ). Keeps (gathers.events ++ l.event ∷ []) g (lines ++ l ∷ [])) (sym none) (next_number lines gathers.events l count gathers.counted keeps is);
        taken = takes gathers.events (gathers.counted ∙ ap length keeps ∙ length-numbered 0 gathers.events) gathers.taken;
      }

  -- the first gap is here
  pub gap_found : gap ≡ None → l.number ≢ count → Gathers HasTaken taker (count + 1) (Some (count + 1)) (lines ++ l ∷ [])
  gap_found none other = record {
    events = gathers.events;
    counted = length_push lines l count gathers.counted;
    kept = gap_here lines gathers.events l count gathers.counted (subst (λ (g : Option ℕ). Keeps gathers.events g lines) none gathers.kept) other;
    taken = gathers.taken;
  }

  -- or it was before
  pub gap_before : (at : ℕ) → gap ≡ Some at → Gathers HasTaken taker (count + 1) gap (lines ++ l ∷ [])
  gap_before at is = record {
    events = gathers.events;
    counted = length_push lines l count gathers.counted;
    kept = subst (λ (g : Option ℕ). Keeps gathers.events g (lines ++ l ∷ [])) (sym is) (gap_stays lines l at (subst (λ (g : Option ℕ). Keeps gathers.events g lines) is gathers.kept));
    taken = gathers.taken;
  }

-- all lines were read
module _ {T : Type 0} (HasTaken : T → List Event → Type 0) (taker : T) (count : ℕ) (gap : Option ℕ) (version : Version) (lines : List Numbered) (body : List ℕ) (gathers : Gathers HasTaken taker count gap lines) (spells : SpellsLines version body lines) where
  pub all_taken : gap ≡ None → (events : List Event) × AreEvents version events body × HasTaken taker events
  all_taken none =
      let keeps = subst (λ (g : Option ℕ). Keeps gathers.events g lines) none gathers.kept in
      (gathers.events, subst (SpellsLines version body) keeps spells, gathers.taken)

  pub gap_told : (at : ℕ) → gap ≡ Some at → HasGap version body at
  gap_told at is = (lines, spells, subst (λ (g : Option ℕ). Keeps gathers.events g lines) is gathers.kept)
