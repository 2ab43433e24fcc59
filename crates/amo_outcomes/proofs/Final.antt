-- What is final: which puts have which outcome, and how outcomes change as a history goes on.
use Rattle.std.proofs.Common.{◌≡◌, ℕ, true, false, eqb, ◌<◌, List, [], ◌∷◌, ◌++◌, refl, sym, subst, inl, inr, ◌⊎◌, arith}
use Rattle.std.specs.List.{Contains}
use Rattle.std.proofs.lemmas.Bool.Decides.{eqb_tells}
use Rattle.std.proofs.lemmas.List.Elements.{Contains-append_left, Contains-append_right, Contains-append_cases}
use Rattle.amo_world.specs.declared.event.Event.{Event}
use Rattle.amo_world.specs.History.{stream_after, IsRight, IsHonest, IsFresh, Extends}
use Rattle.amo_world.proofs.Lists.{contains_nothing, contains_cases, contains_first, contains_other}
use Rattle.amo_outcomes.specs.declared.outcome.Outcome.{Outcome}
use Rattle.amo_outcomes.specs.declared.outcome.Outcome.TheVariants.{Got, Gone, Open}
use Rattle.amo_outcomes.specs.Puts.{puts_after}
use Rattle.amo_outcomes.specs.Outcome.{open_in, HasOutcome}
use Rattle.amo_outcomes.proofs.Parts.{Rises, rises_contains, rises_apart, part_contains}
use Rattle.amo_outcomes.proofs.Histories.{Goes, told, goes}

-- a number stands in a list, or it does not
pub stands_or_not : (ns : List ℕ) (n : ℕ) → Contains ns n ⊎ (¬ (Contains ns n))
stands_or_not [] n = inr (contains_nothing n)
stands_or_not (m ∷ ns) n = first_or_other (eqb_tells m n) (stands_or_not ns n)
  where
    first_or_other : ((eqb m n ≡ true) × (m ≡ n)) ⊎ ((eqb m n ≡ false) × (m ≡ n → ⊥)) → Contains ns n ⊎ (¬ (Contains ns n))
        → Contains (m ∷ ns) n ⊎ (¬ (Contains (m ∷ ns) n))
    first_or_other (inl h) others = inl (subst (Contains (m ∷ ns)) h.1 (contains_first m ns))
    first_or_other (inr h) (inl there) = inl (contains_other m ns n there)
    first_or_other (inr h) (inr nowhere) = inr (λ c. neither (contains_cases m ns n c))
      where
        neither : (m ≡ n) ⊎ Contains ns n → ⊥
        neither (inl same) = h.1 same
        neither (inr there) = nowhere there

-- the puts that are got or open after a history
abbrev got_after : ℕ → List Event → List ℕ
got_after number events = (puts_after number events).got

abbrev open_after : ℕ → List Event → List ℕ
open_after number events = open_in (stream_after number events) (puts_after number events)

module _ (number : ℕ) (events : List Event) (right : IsRight events) (honest : IsHonest events) (fresh : IsFresh events) where
  rises : Rises 0 (got_after number events ++ open_after number events) (puts_after number events).count
  rises = (told number events right honest fresh).rises

  within : (put : ℕ) → Contains (got_after number events ++ open_after number events) put → put < (puts_after number events).count
  within put c = (rises_contains 0 (got_after number events ++ open_after number events)
      (puts_after number events).count put rises c).1

  got_within : (put : ℕ) → Contains (got_after number events) put → put < (puts_after number events).count
  got_within put c = within put (Contains-append_left (got_after number events) (open_after number events) put c)

  open_within : (put : ℕ) → Contains (open_after number events) put → put < (puts_after number events).count
  open_within put c = within put (Contains-append_right (got_after number events) (open_after number events) put c)

  apart : (put : ℕ) → Contains (got_after number events) put → Contains (open_after number events) put → ⊥
  apart put c d =
      let less : put < put = rises_apart 0 (got_after number events) (open_after number events)
      (puts_after number events).count put put rises c d in
      omega (arith, less)

  -- each put has an outcome
  pub some_outcome : (put : ℕ) → put < (puts_after number events).count → (outcome : Outcome)
      × HasOutcome number events put outcome
  some_outcome put less = elim (stands_or_not (got_after number events) put) [
    | inl got ↦ (Got, got)
    | inr not_got ↦ elim (stands_or_not (open_after number events) put) [
      | inl awaited ↦ (Open, awaited)
      | inr not_open ↦ (Gone, (less, not_got, not_open))
    ]
  ]

  -- one alone
  pub no_other : (put : ℕ) (one other : Outcome) → HasOutcome number events put one → HasOutcome number events put other
      → one ≡ other
  no_other put Got Got a b = refl
  no_other put Got Gone a b = absurd (b.1 a)
  no_other put Got Open a b = absurd (apart put a b)
  no_other put Gone Got a b = absurd (a.1 b)
  no_other put Gone Gone a b = refl
  no_other put Gone Open a b = absurd (a.2 b)
  no_other put Open Got a b = absurd (apart put b a)
  no_other put Open Gone a b = absurd (b.2 a)
  no_other put Open Open a b = refl

  pub of_puts : (put : ℕ) (outcome : Outcome) → HasOutcome number events put outcome → put < (puts_after number events).count
  of_puts put Got has = got_within put has
  of_puts put Gone has = has.0
  of_puts put Open has = open_within put has

  -- once a later put was got, no earlier one is open
  pub none_before : (earlier later : ℕ) → earlier < later → HasOutcome number events later Got
      → ¬ (HasOutcome number events earlier Open)
  none_before earlier later less got awaited =
      let other : later < earlier = rises_apart 0 (got_after number events) (open_after number events)
      (puts_after number events).count later earlier rises got awaited in
      omega (arith, less, other)

-- one event more
module _ (number : ℕ) (past : List Event) (e : Event) (g : Goes number past e) where
  pub got_stays : (put : ℕ) → Contains (got_after number past) put → Contains (got_after number (e ∷ past)) put
  got_stays put c = subst (λ (ns : List ℕ). Contains ns put) (sym g.steps.kept) (Contains-append_left
      (got_after number past) g.steps.more put c)

  -- what is got or open was got or open, or is put just now
  before : (put : ℕ) → put < (puts_after number past).count → Contains (got_after number (e ∷ past) ++ open_after number
      (e ∷ past)) put
      → Contains (got_after number past) put ⊎ Contains (open_after number past) put
  before put less c =
      by (Contains-append_cases (got_after number past) (open_after number past ++ g.new) put (part_contains g.steps.part put c))
    where
      not_new : (new : List ℕ) → (new ≡ []) ⊎ (new ≡ (puts_after number past).count ∷ []) → Contains new put → ⊥
      not_new new (inl is) there = contains_nothing put (subst (λ (ns : List ℕ). Contains ns put) is there)
      not_new new (inr is) there = elim (contains_cases (puts_after number past).count [] put (subst (λ
          (ns : List ℕ). Contains ns put) is there)) [
            | inl same ↦ omega (arith, same, less)
            | inr none ↦ contains_nothing put none
          ]

      open_or_new : Contains (open_after number past) put ⊎ Contains g.new put → Contains (got_after number past) put
          ⊎ Contains (open_after number past) put
      open_or_new (inl awaited) = inr awaited
      open_or_new (inr new) = absurd (not_new g.new g.puts new)

      by : Contains (got_after number past) put ⊎ Contains (open_after number past ++ g.new) put
          → Contains (got_after number past) put ⊎ Contains (open_after number past) put
      by (inl got) = inl got
      by (inr other) = open_or_new (Contains-append_cases (open_after number past) g.new put other)

  pub gone_stays : (put : ℕ) → HasOutcome number past put Gone → HasOutcome number (e ∷ past) put Gone
  gone_stays put gone = (
    omega (arith, gone.0, g.steps.count),
    λ c. neither (before put gone.0 (Contains-append_left (got_after number (e ∷ past)) (open_after number (e ∷ past)) put c)),
    λ c. neither (before put gone.0 (Contains-append_right (got_after number (e ∷ past)) (open_after number (e ∷ past)) put c)),
  )
    where
      neither : Contains (got_after number past) put ⊎ Contains (open_after number past) put → ⊥
      neither (inl got) = gone.1 got
      neither (inr awaited) = gone.2 awaited

-- what an event more keeps, all that come keep
keeps : (number : ℕ) (put : ℕ) (outcome : Outcome)
    → ((past : List Event) (e : Event) → Goes number past e → HasOutcome number past put outcome
    → HasOutcome number (e ∷ past) put outcome)
    → (newer earlier : List Event) → IsRight (newer ++ earlier) → IsHonest (newer ++ earlier) → IsFresh (newer ++ earlier)
    → HasOutcome number earlier put outcome → HasOutcome number (newer ++ earlier) put outcome
keeps number put outcome one [] earlier right honest fresh has = has
keeps number put outcome one (e ∷ newer) earlier right honest fresh has =
    one (newer ++ earlier) e
    (goes number (newer ++ earlier) e right honest fresh (told number (newer ++ earlier) right.1 honest.1 fresh.1))
    (keeps number put outcome one newer earlier right.1 honest.1 fresh.1 has)

module _ (number : ℕ) (later earlier : List Event) (extends : Extends later earlier)
    (right : IsRight later) (honest : IsHonest later) (fresh : IsFresh later) (put : ℕ) where
  on : (outcome : Outcome)
      → ((past : List Event) (e : Event) → Goes number past e → HasOutcome number past put outcome
      → HasOutcome number (e ∷ past) put outcome)
      → HasOutcome number earlier put outcome → HasOutcome number later put outcome
  on outcome one has =
      subst (λ (events : List Event). HasOutcome number events put outcome) (sym extends.1)
      (keeps number put outcome one extends.0 earlier (subst IsRight extends.1 right) (subst IsHonest extends.1 honest)
      (subst IsFresh extends.1 fresh) has)

  pub got_is_final : HasOutcome number earlier put Got → HasOutcome number later put Got
  got_is_final = on Got (λ past e g. got_stays number past e g put)

  pub gone_is_final : HasOutcome number earlier put Gone → HasOutcome number later put Gone
  gone_is_final = on Gone (λ past e g. gone_stays number past e g put)
