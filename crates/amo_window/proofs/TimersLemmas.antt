-- What a change of one timer does to a list of timers, for this crate and its callers.
use Rattle.std.proofs.Common.{◌≡◌, ◌≢◌, ℕ, zero, suc, ◌+◌, ◌<◌, ◌≤◌, eqb, cond, true, false, List, [], ◌∷◌, length, get_or, set, map, filter, slice_get, Some, is_some, Contains, refl, sym, ap, subst, ◌∙◌, arith}
use Rattle.std.proofs.lemmas.Bool.Decides.{nat_tests}
use Rattle.std.specs.List.Sorted.{IsStrictlyIncreasing}
use Rattle.amo_window.specs.declared.timers.Timer.{Timer}
use Rattle.amo_window.specs.declared.pace.Pace.{Pace}
use Rattle.amo_window.specs.Timers.{streams_of, CanBeTimed, in_ticks, resting, unset, sent, stopped, hastened, changed, has_come, due}
use Rattle.amo_window.proofs.Rising.{rises-tail, at_place, first_differs}

module _ (change : Timer → Timer) (stream : ℕ) where
  -- the timer of another stream stays
  changed-other : (t : Timer) (ts : List Timer) → t.stream ≢ stream → changed change stream (t ∷ ts) ≡ t ∷ changed change stream ts
  changed-other t ts differs =
      let test : eqb t.stream stream ≡ false = grind (arith, nat_tests) in
      ap (λ b. cond b (change t) t ∷ changed change stream ts) test

  -- without a timer of this stream nothing changes
  pub changed-absent : (ts : List Timer) → ¬ (Contains (streams_of ts) stream) → changed change stream ts ≡ ts
  changed-absent [] absent = refl
  changed-absent (t ∷ ts) absent =
      changed-other t ts (λ same. absent (0, omega arith, same))
      ∙ ap (λ rest. t ∷ rest) (changed-absent ts (λ found. absent (suc found.0, omega (arith, found.1), found.2)))

  -- with one, it alone changes
  pub changed-at : (ts : List Timer) (place : ℕ) (d : Timer) → IsStrictlyIncreasing (streams_of ts) → slice_get (streams_of ts) place ≡ Some stream → changed change stream ts ≡ set ts place (change (get_or ts place d))
  changed-at [] place d rising found = absurd (cc)
  changed-at (t ∷ ts) zero d rising found =
      let same : t.stream ≡ stream = cc in
      let test : eqb t.stream stream ≡ true = grind (arith, nat_tests) in
      ap (λ b. cond b (change t) t ∷ changed change stream ts) test
      ∙ ap (λ rest. change t ∷ rest) (changed-absent ts (λ again. first_differs t.stream stream (streams_of ts) rising again.0 again.1 again.2 same))
  changed-at (t ∷ ts) (suc place) d rising found =
      let here = at_place (streams_of ts) place stream stream found in
      changed-other t ts (first_differs t.stream stream (streams_of ts) rising place here.0 here.1)
      ∙ ap (λ rest. t ∷ rest) (changed-at ts place d (rises-tail t.stream (streams_of ts) rising) found)

  -- a change that keeps each timer's stream keeps the streams
  pub streams_of-changed : ((t : Timer) → (change t).stream ≡ t.stream) → (ts : List Timer) → streams_of (changed change stream ts) ≡ streams_of ts
  streams_of-changed keeps [] = refl
  streams_of-changed keeps (t ∷ ts) =
      let first : (cond (eqb t.stream stream) (change t) t).stream ≡ t.stream =
      elim (eqb t.stream stream) as (λ b. (cond b (change t) t).stream ≡ t.stream) [ true ↦ keeps t | false ↦ refl ] in
      ap (λ s. s ∷ streams_of (changed change stream ts)) first
      ∙ ap (λ rest. t.stream ∷ rest) (streams_of-changed keeps ts)

  -- a changed timer in the place of the stream's own
  pub written : (ts : List Timer) (place : ℕ) (old new : Timer) → IsStrictlyIncreasing (streams_of ts) → slice_get (streams_of ts) place ≡ Some stream → old ≡ get_or ts place old → new ≡ change old → set ts place new ≡ changed change stream ts
  written ts place old new rising found read made =
      ap (set ts place) (made ∙ ap change read) ∙ sym (changed-at ts place old rising found)

  -- which leaves the streams
  pub still_timed : ((t : Timer) → (change t).stream ≡ t.stream) → (ts new : List Timer) → new ≡ changed change stream ts → CanBeTimed (streams_of ts) → CanBeTimed (streams_of new)
  still_timed keeps ts new is kept =
      subst CanBeTimed (sym (ap streams_of is ∙ streams_of-changed keeps ts)) kept

-- no more streams are due than have timers
pub length-due : (time : ℕ) (ts : List Timer) → length (due time ts) ≤ length ts
length-due time [] = omega arith
length-due time (t ∷ ts) =
    elim (has_come time t.next) as (λ b. length (streams_of (cond b (t ∷ filter (λ u. has_come time u.next) ts) (filter (λ u. has_come time u.next) ts))) ≤ length (t ∷ ts)) [
      | true ↦ omega (arith, length-due time ts)
      | false ↦ omega (arith, length-due time ts)
    ]

-- a new list of timers has the streams that it was made for
pub streams_of-resting : (pace : Pace) (streams : List ℕ) → streams_of (map (resting pace) streams) ≡ streams
streams_of-resting pace [] = refl
streams_of-resting pace (s ∷ streams) = ap (λ rest. s ∷ rest) (streams_of-resting pace streams)

-- the same in ticks
pub streams_of-unset : (streams : List ℕ) → streams_of (map unset streams) ≡ streams
streams_of-unset streams = streams_of-resting in_ticks streams

-- a timer that begins anew has its stream
pub stream-hastened : (time : ℕ) (t : Timer) → (hastened time t).stream ≡ t.stream
stream-hastened time t = elim (is_some t.next) as (λ b. (cond b (sent time (stopped t)) t).stream ≡ t.stream) [ true ↦ refl | false ↦ refl ]

-- and timers that begin anew have their streams
pub streams_of-hastened : (time : ℕ) (ts : List Timer) → streams_of (map (hastened time) ts) ≡ streams_of ts
streams_of-hastened time [] = refl
streams_of-hastened time (t ∷ ts) = ap (λ s. s ∷ streams_of (map (hastened time) ts)) (stream-hastened time t) ∙ ap (λ rest. t.stream ∷ rest) (streams_of-hastened time ts)

-- the first so many began anew
abbrev pub first_hastened : ℕ → ℕ → List Timer → List Timer
first_hastened time zero ts = ts
first_hastened time (suc n) [] = []
first_hastened time (suc n) (t ∷ ts) = hastened time t ∷ first_hastened time n ts

-- and then the next one too
hastened-step : (time i : ℕ) (ts : List Timer) (d : Timer) → i < length (first_hastened time i ts) → set (first_hastened time i ts) i (hastened time (get_or (first_hastened time i ts) i d)) ≡ first_hastened time (suc i) ts
hastened-step time zero [] d within = absurd (omega arith)
hastened-step time zero (t ∷ ts) d within = refl
hastened-step time (suc i) [] d within = absurd (omega arith)
hastened-step time (suc i) (t ∷ ts) d within = ap (λ rest. hastened time t ∷ rest) (hastened-step time i ts d (omega (arith, within)))

pub hastened-next : (time i : ℕ) (ts now : List Timer) (read new : Timer) → i < length now → now ≡ first_hastened time i ts → read ≡ get_or now i read → new ≡ hastened time read → set now i new ≡ first_hastened time (i + 1) ts
hastened-next time i ts now read new within is here made =
    let next : suc i ≡ i + 1 = omega arith in
    ap (set now i) (made ∙ ap (hastened time) here)
    ∙ subst (λ (l : List Timer). set l i (hastened time (get_or l i read)) ≡ first_hastened time (suc i) ts) (sym is) (hastened-step time i ts read (subst (λ (l : List Timer). i < length l) is within))
    ∙ ap (λ n. first_hastened time n ts) next

-- there are as many
pub length-hastened : (time i : ℕ) (ts : List Timer) → length (first_hastened time i ts) ≡ length ts
length-hastened time zero ts = refl
length-hastened time (suc i) [] = refl
length-hastened time (suc i) (t ∷ ts) = ap suc (length-hastened time i ts)

-- all of them are all
pub hastened-all : (time : ℕ) (ts : List Timer) → first_hastened time (length ts) ts ≡ map (hastened time) ts
hastened-all time [] = refl
hastened-all time (t ∷ ts) = ap (λ rest. hastened time t ∷ rest) (hastened-all time ts)

-- timers that begin anew can be timed as before
pub hastened-timed : (time i : ℕ) (ts : List Timer) → streams_of (first_hastened time i ts) ≡ streams_of ts
hastened-timed time zero ts = refl
hastened-timed time (suc i) [] = refl
hastened-timed time (suc i) (t ∷ ts) = ap (λ s. s ∷ streams_of (first_hastened time i ts)) (stream-hastened time t) ∙ ap (λ rest. t.stream ∷ rest) (hastened-timed time i ts)
