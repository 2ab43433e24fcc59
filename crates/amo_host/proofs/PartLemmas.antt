-- What stands in each n-th place of a list.
use Rattle.std.proofs.Common.{◌≡◌, ◌≢◌, ℕ, zero, suc, ◌+◌, ◌*◌, ◌<◌, ◌≤◌, List, [], ◌∷◌, ◌++◌, length, get_or, set, map, slice_get, Some, None, refl, sym, ap, subst, ◌∙◌, inl, inr, arith, length-append}
use Rattle.std.specs.List.Sorted.{IsStrictlyIncreasing}
use Rattle.std.specs.Option.{option_map}
use Rattle.std.proofs.Math.Nat.{mul-le-mul_left, mul-le-mul_right}
use Rattle.std.proofs.lemmas.Bool.{cases_lt}
use Rattle.std.proofs.lemmas.Option.{same_Some, slice_get_within, slice_get_past, slice_get-get_or, slice_get-map, get_or_from_slice_get}
use Rattle.amo_window.proofs.Rising.{rises_far}
use Rattle.amo_window.specs.Timers.{CanBeTimed}
use Rattle.amo_book.specs.Book.{Each}
use Rattle.amo_host.specs.Division.{IsPart}
use Rattle.amo_host.proofs.ChargeLemmas.{each_at, each_from}

-- lists that agree in each place are the same
pub same_lists : {X : Type 0} (xs ys : List X) → ((k : ℕ) → slice_get xs k ≡ slice_get ys k) → xs ≡ ys
same_lists [] [] same = refl
same_lists [] (y ∷ ys) same = let first = same 0 in absurd (cc)
same_lists (x ∷ xs) [] same = let first = same 0 in absurd (cc)
same_lists (x ∷ xs) (y ∷ ys) same = let rest = same_lists xs ys (λ k. same (suc k)) in let first = same_Some x y (same 0) in cc

-- what stands in a place
pub there : {X : Type 0} (xs : List X) (i : ℕ) → i < length xs → (x : X) × (slice_get xs i ≡ Some x)
there [] i within = absurd (omega arith)
there (x ∷ xs) zero within = (x, refl)
there (x ∷ xs) (suc i) within = there xs i (omega arith)

-- one more at the end, in each place
get-push : {X : Type 0} (xs : List X) (x : X) (j : ℕ) → j < length xs → slice_get (xs ++ x ∷ []) j ≡ slice_get xs j
get-push [] x j before = absurd (omega arith)
get-push (y ∷ xs) x zero before = refl
get-push (y ∷ xs) x (suc j) before = get-push xs x j (omega arith)

last-push : {X : Type 0} (xs : List X) (x : X) (j : ℕ) → j ≡ length xs → slice_get (xs ++ x ∷ []) j ≡ Some x
last-push [] x zero last = refl
last-push [] x (suc j) last = absurd (omega arith)
last-push (y ∷ xs) x zero last = absurd (omega arith)
last-push (y ∷ xs) x (suc j) last = last-push xs x j (omega arith)

past-push : {X : Type 0} (xs : List X) (x : X) (j : ℕ) → length xs < j → slice_get (xs ++ x ∷ []) j ≡ None
past-push [] x zero past = absurd (omega arith)
past-push [] x (suc j) past = refl
past-push (y ∷ xs) x zero past = absurd (omega arith)
past-push (y ∷ xs) x (suc j) past = past-push xs x j (omega arith)

module _ {X : Type 0} (n p : ℕ) (all : List X) where
  -- a list has one such part
  pub one_part : (a b : List X) → IsPart n p all a → IsPart n p all b → a ≡ b
  one_part a b first second = same_lists a b (λ k. first.each k ∙ sym (second.each k))

  -- it has an element if its first place is one of the list
  pub part_some : (part : List X) → IsPart n p all part → p < length all → 0 < length part
  part_some part is within =
      let place : p + n * 0 < length all = omega arith in
      let first = there all (p + n * 0) place in
      slice_get_within part 0 first.0 (is.each 0 ∙ first.1)

  -- what holds of all holds of a part
  pub part_each : (P : X → Type 0) (part : List X) → IsPart n p all part → Each P all → Each P part
  part_each P part is holds = each_from P part (λ k x at. each_at P all (p + n * k) x holds (sym (is.each k) ∙ at))

  -- a part is no longer than the list
  pub part_few : (part : List X) → 0 < n → IsPart n p all part → length part ≤ length all
  part_few part some is = few part is
    where
      few : (part : List X) → IsPart n p all part → length part ≤ length all
      few [] is = omega arith
      few (x ∷ part) is =
          let k = length part in
          let last = there (x ∷ part) k (omega arith) in
          let within = slice_get_within all (p + n * k) last.0 (sym (is.each k) ∙ last.1) in
          let times : 1 * k ≤ n * k = mul-le-mul_right k some in
          omega (arith, within, times)

-- a list without a length
pub length_none : {X : Type 0} (xs : List X) → length xs ≡ 0 → xs ≡ []
length_none [] none = refl
length_none (x ∷ xs) none = absurd (omega arith)

-- what holds of each in its place, after one more at the end
pub placed_push : {X : Type 0} (Q : ℕ → X → Type 0) (xs : List X) (x : X) → ((p : ℕ) (y : X) → slice_get xs p ≡ Some y → Q p y) → Q (length xs) x → (p : ℕ) (y : X) → slice_get (xs ++ x ∷ []) p ≡ Some y → Q p y
placed_push Q [] x each new zero y at = subst (Q 0) (same_Some x y at) new
placed_push Q [] x each new (suc p) y at = absurd (cc)
placed_push Q (z ∷ xs) x each new zero y at = each 0 y at
placed_push Q (z ∷ xs) x each new (suc p) y at = placed_push (λ j. Q (suc j)) xs x (λ j w found. each (suc j) w found) new p y at

-- and after a change of one
pub placed_set : {X : Type 0} (Q R : ℕ → X → Type 0) (xs : List X) (i : ℕ) (x : X) → ((p : ℕ) (y : X) → slice_get xs p ≡ Some y → Q p y) → R i x → ((p : ℕ) (y : X) → p ≢ i → p < length xs → Q p y → R p y) → (p : ℕ) (y : X) → slice_get (set xs i x) p ≡ Some y → R p y
placed_set Q R [] i x each new other p y at = absurd (cc)
placed_set Q R (z ∷ xs) zero x each new other zero y at = subst (R 0) (same_Some x y at) new
placed_set Q R (z ∷ xs) zero x each new other (suc p) y at = other (suc p) y (omega arith) (let within = slice_get_within xs p y at in omega arith) (each (suc p) y at)
placed_set Q R (z ∷ xs) (suc i) x each new other zero y at = other 0 y (omega arith) (omega arith) (each 0 y at)
placed_set Q R (z ∷ xs) (suc i) x each new other (suc p) y at =
    placed_set (λ j. Q (suc j)) (λ j. R (suc j)) xs i x (λ j w found. each (suc j) w found) new (λ j w different inside holds. other (suc j) w (λ (same : suc j ≡ suc i). different (omega arith)) (omega arith) holds) p y at

-- a part of the images
pub part-map : {X Y : Type 0} (f : X → Y) (n p : ℕ) (all part : List X) → IsPart n p all part → IsPart n p (map f all) (map f part)
part-map f n p all part is = record { each = λ k. slice_get-map f part k ∙ ap (option_map f) (is.each k) ∙ sym (slice_get-map f all (p + n * k)) }

-- a part of numbers that rise does so too
pub part_rises : (n p : ℕ) (all part : List ℕ) → 0 < n → IsPart n p all part → IsStrictlyIncreasing all → IsStrictlyIncreasing part
part_rises n p all part some is rising k within =
    let this = slice_get-get_or part k 0 (omega arith) in
    let next = slice_get-get_or part (k + 1) 0 within in
    let here = get_or_from_slice_get all (p + n * k) (get_or part k 0) 0 (sym (is.each k) ∙ this) in
    let there = get_or_from_slice_get all (p + n * (k + 1)) (get_or part (k + 1) 0) 0 (sym (is.each (k + 1)) ∙ next) in
    let inside = slice_get_within all (p + n * (k + 1)) (get_or part (k + 1) 0) (sym (is.each (k + 1)) ∙ next) in
    let less = rises_far all rising (p + n * k) (p + n * (k + 1)) (omega arith) inside in
    omega (arith, here, there, less)

pub part_timed : (n p : ℕ) (all part : List ℕ) → 0 < n → IsPart n p all part → CanBeTimed all → CanBeTimed part
part_timed n p all part some is timed = record { few = omega (arith, timed.few, part_few n p all part some is); rising = part_rises n p all part some is timed.rising }

-- a place where nothing stands
none_past : {X : Type 0} (xs : List X) (i : ℕ) → slice_get xs i ≡ None → length xs ≤ i
none_past xs i none = elim (cases_lt i (length xs)) [
  | inl within ↦ let here = there xs i within in let told = sym none ∙ here.1 in absurd (cc)
  | inr past ↦ past
]

module _ {X : Type 0} (n p : ℕ) (all part : List X) (place : ℕ) (comes : place ≡ p + n * length part) (each : (k : ℕ) → k < length part → slice_get part k ≡ slice_get all (p + n * k)) where
  -- a part that is begun gets the next element
  pub part_push : (x : X) → slice_get all place ≡ Some x → (k : ℕ) → k < length (part ++ x ∷ []) → slice_get (part ++ x ∷ []) k ≡ slice_get all (p + n * k)
  part_push x at k within = elim (cases_lt k (length part)) [
    | inl before ↦ get-push part x k before ∙ each k before
    | inr past ↦
        let last : k ≡ length part = omega (arith, within, length-append part (x ∷ [])) in
        let times : n * k ≡ n * length part = ap (λ j. n * j) last in
        last-push part x k last ∙ sym at ∙ ap (slice_get all) (omega arith)
  ]

  -- and is whole where there is none
  pub part_end : slice_get all place ≡ None → IsPart n p all part
  part_end none = record { each = whole }
    where
      whole : (k : ℕ) → slice_get part k ≡ slice_get all (p + n * k)
      whole k = elim (cases_lt k (length part)) [
        | inl before ↦ each k before
        | inr past ↦
            let times : n * length part ≤ n * k = mul-le-mul_left n past in
            slice_get_past part k past ∙ sym (slice_get_past all (p + n * k) (omega (arith, none_past all place none)))
      ]

-- a place that is of another turn
apart : (n p r q k : ℕ) → p < n → r < n → p ≢ r → p + n * k ≢ r + n * q
apart n p r q k first second other same = elim (cases_lt k q) [
  | inl less ↦ let times : n * (k + 1) ≤ n * q = mul-le-mul_left n (omega arith) in absurd (omega arith)
  | inr more ↦ elim (cases_lt q k) [
    | inl past ↦ let times : n * (q + 1) ≤ n * k = mul-le-mul_left n (omega arith) in absurd (omega arith)
    | inr even ↦ let times : n * k ≡ n * q = ap (λ j. n * j) (omega arith) in other (omega arith)
  ]
]

module _ {X : Type 0} (n r q : ℕ) (within : r < n) (ys : List X) (turn : r + n * q ≡ length ys) where
  -- how many the part has whose turn it is
  pub turn_length : (part : List X) → IsPart n r ys part → length part ≡ q
  turn_length part is = elim (cases_lt (length part) q) [
    | inl short ↦
        let times : n * (length part + 1) ≤ n * q = mul-le-mul_left n (omega arith) in
        let here = there ys (r + n * length part) (omega arith) in
        let told = sym (slice_get_past part (length part) (omega arith)) ∙ is.each (length part) ∙ here.1 in
        absurd (cc)
    | inr enough ↦ elim (cases_lt q (length part)) [
      | inl long ↦
          let here = there part q long in
          let told = sym here.1 ∙ is.each q ∙ slice_get_past ys (r + n * q) (omega arith) in
          absurd (cc)
      | inr even ↦ omega arith
    ]
  ]

  -- the part whose turn it is gets one more
  pub dealt_here : (x : X) (part : List X) → IsPart n r ys part → IsPart n r (ys ++ x ∷ []) (part ++ x ∷ [])
  dealt_here x part is = record { each = each }
    where
      each : (k : ℕ) → slice_get (part ++ x ∷ []) k ≡ slice_get (ys ++ x ∷ []) (r + n * k)
      each k = elim (cases_lt k q) [
        | inl less ↦
            let times : n * (k + 1) ≤ n * q = mul-le-mul_left n (omega arith) in
            get-push part x k (omega (arith, turn_length part is)) ∙ is.each k ∙ sym (get-push ys x (r + n * k) (omega arith))
        | inr more ↦ elim (cases_lt q k) [
          | inl past ↦
              let times : n * (q + 1) ≤ n * k = mul-le-mul_left n (omega arith) in
              past-push part x k (omega (arith, turn_length part is)) ∙ sym (past-push ys x (r + n * k) (omega arith))
          | inr even ↦
              let times : n * k ≡ n * q = ap (λ j. n * j) (omega arith) in
              last-push part x k (omega (arith, turn_length part is)) ∙ sym (last-push ys x (r + n * k) (omega arith))
        ]
      ]

  -- the other parts stay as they are
  pub dealt_elsewhere : (x : X) (p : ℕ) (part : List X) → p < n → p ≢ r → IsPart n p ys part → IsPart n p (ys ++ x ∷ []) part
  dealt_elsewhere x p part first other is = record { each = λ k. is.each k ∙ same k }
    where
      same : (k : ℕ) → slice_get ys (p + n * k) ≡ slice_get (ys ++ x ∷ []) (p + n * k)
      same k =
          let different = apart n p r q k first within other in
          elim (cases_lt (p + n * k) (length ys)) [
            | inl before ↦ sym (get-push ys x (p + n * k) before)
            | inr past ↦
                slice_get_past ys (p + n * k) past ∙ sym (past-push ys x (p + n * k) (omega (arith, λ (e : p + n * k ≡ length ys). different (e ∙ sym turn))))
          ]
