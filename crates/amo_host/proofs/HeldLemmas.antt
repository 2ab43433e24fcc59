-- What opening and closing a permit does to the permits that a host holds.
use Rattle.std.proofs.Common.{◌≡◌, ◌≢◌, ℕ, zero, suc, ◌+◌, ◌<◌, ◌≤◌, true, List, [], ◌∷◌, ◌++◌, length, get_or, set, replicate, cond, is_some, count_by, ◌⊎◌, Option, Some, None, refl, sym, ap, subst, ◌∙◌, inl, inr, arith}
use Rattle.std.proofs.lemmas.Bool.{cases_eq, cases_lt}
use Rattle.std.proofs.lemmas.List.{get_or-set_same, get_or-set_other, length-map, length_push, get_or_append_left, get_or_at, set_at, set-get_or, get_or_past, map-set}
use Rattle.std.proofs.lemmas.List.Sums.{sum_by-set, sum_by-cons}
use Rattle.std.proofs.lemmas.Option.{same_Some}
use Rattle.std.specs.Option.{option_map}
use Rattle.amo_window.specs.Window.{Entry, Permits, Holds, StayOut, out, opened, closed}
use Rattle.amo_host.specs.Handshakes.{held_of, AreOut, StandsAt, streams_of, open_count}

-- a permit counts as one
abbrev weight : Option Entry → ℕ
weight o = cond (is_some o) 1 0

-- as many permits as streams
pub count-streams : (ps : List (Option Entry)) → open_count (streams_of ps) ≡ count_by is_some ps
count-streams [] = refl
count-streams (None ∷ ps) = omega (arith, count-streams ps, sum_by-cons weight None ps, sum_by-cons (λ (o : Option ℕ). cond (is_some o) 1 0) None (streams_of ps))
count-streams (Some p ∷ ps) = omega (arith, count-streams ps, sum_by-cons weight (Some p) ps, sum_by-cons (λ (o : Option ℕ). cond (is_some o) 1 0) (Some p.stream) (streams_of ps))

-- the stream in a place is that of the permit there
pub stream_at : (ps : List (Option Entry)) (i : ℕ) → get_or (streams_of ps) i None ≡ option_map (λ p. p.stream) (get_or ps i None)
stream_at [] i = refl
stream_at (p ∷ ps) zero = refl
stream_at (p ∷ ps) (suc i) = stream_at ps i

-- no permit stands where there is no stream
pub vacant_at : (ps : List (Option Entry)) (i : ℕ) → get_or (streams_of ps) i None ≡ None → get_or ps i None ≡ None
vacant_at ps i none = elim (get_or ps i None) as (λ o. get_or ps i None ≡ o → o ≡ None) [
  | None ↦ λ _. refl
  | Some p ↦ λ is. absurd (cc (stream_at ps i))
] refl

module _ (w : Permits) (limit : ℕ) (ps : List (Option Entry)) (i : ℕ) (within : i < length ps) where
  -- a permit more
  pub count-opened : (p : Entry) → get_or ps i None ≡ None → count_by is_some (set ps i (Some p)) ≡ count_by is_some ps + 1
  count-opened p none =
      let change = sum_by-set weight ps i (Some p) None within in
      let was : weight (get_or ps i None) ≡ 0 = ap weight none in
      omega (arith, change, was)

  -- a permit less
  pub count-closed : (p : Entry) → get_or ps i None ≡ Some p → count_by is_some (set ps i None) + 1 ≡ count_by is_some ps
  count-closed p some =
      let change = sum_by-set weight ps i None None within in
      let was : weight (get_or ps i None) ≡ 1 = ap weight some in
      omega (arith, change, was)

  -- what stands elsewhere stays there
  stands : (o : Option Entry) (j : ℕ) (q : Entry) → StandsAt (set ps i o) j q → ((j ≡ i) × (o ≡ Some q)) ⊎ ((j ≢ i) × StandsAt ps j q)
  stands o j q at = elim (cases_eq j i) [
    | inl same ↦ inl (same, sym (ap (λ (k : ℕ). get_or (set ps i o) k None) same ∙ get_or-set_same ps i o None within) ∙ at)
    | inr differs ↦ inr (differs, sym (get_or-set_other ps i j o None differs) ∙ at)
  ]

  -- a permit that was opened is held too
  pub AreOut-opened : (p : Entry) (v : Permits) → get_or ps i None ≡ None → AreOut w limit ps → v ≡ opened w p → Holds v p → StayOut w v p → out v ≡ out w + 1 → out v ≤ v.limit → AreOut v limit (set ps i (Some p))
  AreOut-opened p v none all is held stay counted bound = record {
    limited = ap (λ (x : Permits). x.limit) is ∙ all.limited;
    within = rw (← (ap (λ (x : Permits). x.limit) is ∙ all.limited)) bound;
    held = λ j q at. elim (stands (Some p) j q at) [
      | inl here ↦ subst (Holds v) (same_Some p q here.1) held
      | inr there ↦ (stay q (all.held j q there.1)).1
    ];
    apart = λ j k q r differ atj atk. elim (stands (Some p) j q atj) [
      | inl here ↦ elim (stands (Some p) k r atk) [
        | inl both ↦ absurd (differ (here.0 ∙ sym both.0))
        | inr there ↦ λ same. (stay r (all.held k r there.1)).0 (sym (ap (λ (x : Entry). x.key) (same_Some p q here.1) ∙ same))
      ]
      | inr there ↦ elim (stands (Some p) k r atk) [
        | inl here ↦ λ same. (stay q (all.held j q there.1)).0 (same ∙ sym (ap (λ (x : Entry). x.key) (same_Some p r here.1)))
        | inr other ↦ all.apart j k q r differ there.1 other.1
      ]
    ];
    count = counted ∙ ap (λ n. n + 1) all.count ∙ sym (count-opened p none);
  }

  -- the others are held once a permit is closed
  pub AreOut-closed : (p : Entry) (v : Permits) → get_or ps i None ≡ Some p → AreOut w limit ps → v ≡ closed w p → ((q : Entry) → Holds w q → q.key ≢ p.key → Holds v q) → out v + 1 ≡ out w → AreOut v limit (set ps i None)
  AreOut-closed p v some all is others counted = record {
    limited = ap (λ (x : Permits). x.limit) is ∙ all.limited;
    within = omega (arith, all.within);
    held = λ j q at. elim (stands None j q at) [
      | inl here ↦ absurd (cc here.1)
      | inr there ↦ others q (all.held j q there.1) (all.apart j i q p there.0 there.1 some)
    ];
    apart = λ j k q r differ atj atk. elim (stands None j q atj) [
      | inl here ↦ absurd (cc here.1)
      | inr there ↦ elim (stands None k r atk) [
        | inl here ↦ absurd (cc here.1)
        | inr other ↦ all.apart j k q r differ there.1 other.1
      ]
    ];
    count = omega (arith, counted, all.count, count-closed p some);
  }

-- a place that has a stream is a place of permits
pub inside : (ps : List (Option Entry)) (i : ℕ) → i < length (streams_of ps) → i < length ps
inside ps i within = omega (arith, length-map ps (option_map (λ (p : Entry). p.stream)))

-- what a change in a place shows
pub held_of-set : (limit : ℕ) (ps : List (Option Entry)) (i : ℕ) (o : Option Entry) → held_of limit (set ps i o) ≡ record { limit = limit; streams = set (streams_of ps) i (option_map (λ p. p.stream) o) }
held_of-set limit ps i o = ap (λ (s : List (Option ℕ)). record (held_of limit ps) { streams = s }) (map-set (option_map (λ p. p.stream)) ps i o)

-- an empty place at the end holds nothing
pub AreOut-shorter : (w : Permits) (limit : ℕ) (ps : List (Option Entry)) → AreOut w limit (ps ++ None ∷ []) → AreOut w limit ps
AreOut-shorter w limit ps all = record {
  limited = all.limited;
  within = all.within;
  held = λ i p at. all.held i p (longer i p at);
  apart = λ i j p q differ ati atj. all.apart i j p q differ (longer i p ati) (longer j q atj);
  count = all.count ∙ fewer ps;
}
  where
    longer : (i : ℕ) (p : Entry) → StandsAt ps i p → StandsAt (ps ++ None ∷ []) i p
    longer i p at = elim (cases_lt i (length ps)) [
      | inl less ↦ get_or_append_left ps (None ∷ []) None i less ∙ at
      | inr past ↦ absurd (cc (get_or_past ps i None past))
    ]

    fewer : (qs : List (Option Entry)) → count_by is_some (qs ++ None ∷ []) ≡ count_by is_some qs
    fewer [] = refl
    fewer (q ∷ qs) = omega (arith, fewer qs, sum_by-cons weight q qs, sum_by-cons weight q (qs ++ None ∷ []))

-- the last permit is closed
pub AreOut-last : (w v : Permits) (limit : ℕ) (ps : List (Option Entry)) (p : Entry) → AreOut w limit (ps ++ Some p ∷ []) → v ≡ closed w p → ((q : Entry) → Holds w q → q.key ≢ p.key → Holds v q) → out v + 1 ≡ out w → AreOut v limit ps
AreOut-last w v limit ps p all is others counted =
    let within : length ps < length (ps ++ Some p ∷ []) = omega (arith, length_push ps (Some p)) in
    let last = get_or_at ps (Some p) [] None (length ps) refl in
    let closing = AreOut-closed w limit (ps ++ Some p ∷ []) (length ps) within p v last all is others counted in
    AreOut-shorter v limit ps (rw (set_at ps (Some p) [] None (length ps) refl) at closing)

-- no permits in any place
pub streams_of-vacant : (n : ℕ) → streams_of (replicate n None) ≡ replicate n None
streams_of-vacant zero = refl
streams_of-vacant (suc n) = ap (λ (rest : List (Option ℕ)). None ∷ rest) (streams_of-vacant n)

vacant_everywhere : (n i : ℕ) → get_or (replicate {A = Option Entry} n None) i None ≡ None
vacant_everywhere zero i = refl
vacant_everywhere (suc n) zero = refl
vacant_everywhere (suc n) (suc i) = vacant_everywhere n i

count_vacant : (n : ℕ) → count_by is_some (replicate {A = Option Entry} n None) ≡ 0
count_vacant zero = refl
count_vacant (suc n) = omega (arith, count_vacant n, sum_by-cons weight None (replicate n None))

pub AreOut-vacant : (w : Permits) (limit n : ℕ) → w.limit ≡ limit → out w ≡ 0 → AreOut w limit (replicate n None)
AreOut-vacant w limit n is none = record {
  limited = is;
  within = omega arith;
  held = λ i p at. absurd (cc (vacant_everywhere n i));
  apart = λ i j p q differ ati atj. absurd (cc (vacant_everywhere n i));
  count = none ∙ sym (count_vacant n);
}

-- no more than the limit allows
pub AreOut-bound : (w : Permits) (limit : ℕ) (ps : List (Option Entry)) → AreOut w limit ps → open_count (streams_of ps) ≤ limit
AreOut-bound w limit ps all = omega (arith, count-streams ps, all.count, all.within)

-- the limit is the window's
pub AreOut-limit : (w v : Permits) (limit : ℕ) (ps : List (Option Entry)) → v.limit ≡ limit → AreOut w limit ps → AreOut w v.limit ps
AreOut-limit w v limit ps same all = subst (λ l. AreOut w l ps) (sym same) all

-- what was in a place that changes to what it had
pub set_again : (xs : List (Option ℕ)) (i : ℕ) (s : ℕ) → is_some (get_or xs i None) ≡ true → ((t : ℕ) → get_or xs i None ≡ Some t → t ≡ s) → xs ≡ set xs i (Some s)
set_again xs i s held own = elim (get_or xs i None) as (λ o. get_or xs i None ≡ o → is_some o ≡ true → xs ≡ set xs i (Some s)) [
  | None ↦ λ is no. absurd (cc)
  | Some t ↦ λ is yes. sym (ap (λ (o : Option ℕ). set xs i o) (sym (is ∙ ap Some (own t is))) ∙ set-get_or xs i None)
] refl held
