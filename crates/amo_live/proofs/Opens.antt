-- How a host opens.
use Rattle.std.proofs.Common.{◌≡◌, ℕ, zero, suc, ◌+◌, ◌<◌, ◌≤◌, List, [], ◌∷◌, ◌++◌, Some, length, map, slice_get, get_or, refl, sym, ap, ap₂, ◌∙◌, subst, arith}
use Rattle.std.specs.List.Sorted.{IsStrictlyIncreasing}
use Rattle.atomic_table.specs.Seated.{TableId}
use Rattle.amo_object.specs.declared.step.End.{End}
use Rattle.amo_book.specs.Book.{AreFirstCharges, AreLawful, Each, IsLawful, Lists, first_charge}
use Rattle.amo_book.specs.Charge.{ChargeState}
use Rattle.amo_host.specs.Charges.{CanBeDriven, IsAtRest, IsOfSide}
use Rattle.amo_host.specs.Station.{IsStation, Station}
use Rattle.amo_live.specs.Host.{sides_from}

sides_more : (side : End) (k n j : ℕ) → j ≡ k + n → sides_from side k (n + 1) ≡ sides_from side k n ++ (side, j) ∷ []
sides_more side k zero j is = ap (λ (m : ℕ). (side, m) ∷ []) (omega arith)
sides_more side k (suc n) j is = let e : suc n + 1 ≡ suc (n + 1) = omega arith in ap (sides_from side k) e ∙ ap (λ l. (side, k) ∷ l) (sides_more side (suc k) n j (omega arith))

-- one side more
pub sides_step : (now after : List (End × ℕ)) (side : End) (n : ℕ) → now ≡ sides_from side 1 n → after ≡ now ++ (side, n + 1) ∷ [] → after ≡ sides_from side 1 (n + 1)
sides_step now after side n is more = more ∙ (ap (λ l. l ++ (side, n + 1) ∷ []) is ∙ sym (sides_more side 1 n (n + 1) (omega arith)))

sides_length : (side : End) (k n : ℕ) → length (sides_from side k n) ≡ n
sides_length side k zero = refl
sides_length side k (suc n) = ap suc (sides_length side (suc k) n)

sides_at : (side : End) (k n j : ℕ) (s : End) (m : ℕ) → slice_get (sides_from side k n) j ≡ Some (s, m) → (s ≡ side) × (m ≡ k + j) × (j < n)
sides_at side k zero j s m e = cc
sides_at side k (suc n) zero s m e = let one : ◌≡◌ {A = End × ℕ} (side, k) (s, m) = cc in (sym (ap (λ t. t.0) one), sym (ap (λ t. t.1) one) ∙ omega arith, omega arith)
sides_at side k (suc n) (suc j) s m e = let t = sides_at side (suc k) n j s m e in let at = t.1 in let lt = t.2 in (t.0, omega arith, omega arith)

lawful : (side : End) (n : ℕ) → 1 ≤ n → n ≤ 256 → AreLawful (sides_from side 1 n)
lawful side n some few = let long = sides_length side 1 n in record {
  some = omega arith;
  streams = λ k s stream e. let t = sides_at side 1 n k s stream e in let at = t.1 in let lt = t.2 in (omega arith, omega arith);
  apart = λ i j s a b. let t = sides_at side 1 n i s.0 s.1 a in let u = sides_at side 1 n j s.0 s.1 b in let at = t.1 in let too = u.1 in omega arith;
}

-- such a book may be opened
pub may_open : (side : End) (n : ℕ) (sides : List (End × ℕ)) → 1 ≤ n → n ≤ 256 → sides ≡ sides_from side 1 n → IsLawful sides 2
may_open side n sides some few is = record { sides_are = subst AreLawful (sym is) (lawful side n some few); two = omega arith; many = omega arith }

long_enough : {A : Type 0} (xs : List A) (y : A) → 1 ≤ length (xs ++ y ∷ [])
long_enough [] y = omega arith
long_enough (z ∷ xs) y = let more = long_enough xs y in omega arith

one_side : {one other : End} (cs : List ChargeState) → 0 < length cs → Each (IsOfSide one) cs → Each (IsOfSide other) cs → one ≡ other
one_side [] some a b = absurd (omega arith)
one_side (c ∷ cs) some a b = sym a.0 ∙ b.0

-- the last of two
pub last_of_two : {A : Type 0} (f : ℕ → A) (all rest : List A) (x : A) → Lists f 2 all → all ≡ rest ++ x ∷ [] → x ≡ f 1
last_of_two f all [] x two is = let long = two.0 in let count = ap length is in absurd (omega arith)
last_of_two f all (a ∷ []) x two is =
    let here : slice_get all 1 ≡ Some x = ap (λ l. slice_get l 1) is in let there = two.1 1 (omega arith) in cc
last_of_two f all (a ∷ b ∷ rest) x two is = let long = two.0 in let count = ap length is in let more = long_enough rest x in absurd (omega arith)

-- and the first
pub first_of_two : {A : Type 0} (f : ℕ → A) (all rest none : List A) (x y : A) → Lists f 2 all → all ≡ rest ++ x ∷ [] → rest ≡ none ++ y ∷ [] → y ≡ f 0
first_of_two f all [] none x y two is front = let long = two.0 in let count = ap length is in absurd (omega arith)
first_of_two f all (a ∷ []) [] x y two is front =
    let here : slice_get all 0 ≡ Some a = ap (λ l. slice_get l 0) is in let there = two.1 0 (omega arith) in cc
first_of_two f all (a ∷ []) (b ∷ none) x y two is front = let count = ap length front in let more = long_enough none y in absurd (omega arith)
first_of_two f all (a ∷ b ∷ rest) none x y two is front = let long = two.0 in let count = ap length is in let more = long_enough rest x in absurd (omega arith)

-- the charges of a book that opens with these sides
abbrev charges_of : TableId → ℕ → List (End × ℕ) → List ChargeState
charges_of id k [] = []
charges_of id k (x ∷ xs) = first_charge id k x.0 x.1 ∷ charges_of id (suc k) xs

dealt_are : (id : TableId) (k : ℕ) (sides : List (End × ℕ)) (cs : List ChargeState) → length cs ≡ length sides
    → ((j : ℕ) (side : End) (stream : ℕ) → slice_get sides j ≡ Some (side, stream) → slice_get cs j ≡ Some (first_charge id (k + j) side stream)) → cs ≡ charges_of id k sides
dealt_are id k [] [] long h = refl
dealt_are id k [] (c ∷ cs) long h = absurd (omega arith)
dealt_are id k (x ∷ xs) [] long h = absurd (omega arith)
dealt_are id k (x ∷ xs) (c ∷ cs) long h =
    let first : Some c ≡ Some (first_charge id (k + 0) x.0 x.1) = h 0 x.0 x.1 refl in
    let here : c ≡ first_charge id (k + 0) x.0 x.1 = cc in
    ap₂ (λ (y : ChargeState) l. y ∷ l) (here ∙ ap (λ (m : ℕ). first_charge id m x.0 x.1) (omega arith))
    (dealt_are id (suc k) xs cs (omega arith) (λ j side stream e. h (suc j) side stream e ∙ ap (λ (m : ℕ). Some (first_charge id m side stream)) (omega arith)))

all_rest : (id : TableId) (side : End) (k m n : ℕ) → Each IsAtRest (charges_of id k (sides_from side m n))
all_rest id side k m zero = tt
all_rest id side k m (suc n) = (refl, all_rest id side (suc k) (suc m) n)

all_of_side : (id : TableId) (side : End) (k m n : ℕ) → Each (IsOfSide side) (charges_of id k (sides_from side m n))
all_of_side id side k m zero = tt
all_of_side id side k m (suc n) = (refl, all_of_side id side (suc k) (suc m) n)

stream_at : (id : TableId) (side : End) (k m n j d : ℕ) → j < n → get_or (map (λ (c : ChargeState). c.stream) (charges_of id k (sides_from side m n))) j d ≡ m + j
stream_at id side k m zero j d lt = absurd (omega arith)
stream_at id side k m (suc n) zero d lt = omega arith
stream_at id side k m (suc n) (suc j) d lt = stream_at id side (suc k) (suc m) n j d (omega arith) ∙ omega arith

streams_length : (id : TableId) (side : End) (k m n : ℕ) → length (map (λ (c : ChargeState). c.stream) (charges_of id k (sides_from side m n))) ≡ n
streams_length id side k m zero = refl
streams_length id side k m (suc n) = ap suc (streams_length id side (suc k) (suc m) n)

charges_length : (id : TableId) (side : End) (k m n : ℕ) → length (charges_of id k (sides_from side m n)) ≡ n
charges_length id side k m zero = refl
charges_length id side k m (suc n) = ap suc (charges_length id side (suc k) (suc m) n)

module _ (id : TableId) (side : End) (n : ℕ) (sides : List (End × ℕ)) (charges : List ChargeState) (is : sides ≡ sides_from side 1 n) (first : AreFirstCharges id sides charges) where
  are : charges ≡ charges_of id 0 (sides_from side 1 n)
  are =
      let listed : AreFirstCharges id (sides_from side 1 n) charges = subst (λ l. AreFirstCharges id l charges) is first in
      dealt_are id 0 (sides_from side 1 n) charges listed.0 (λ j s stream e. listed.1 j s stream e ∙ ap (λ (m : ℕ). Some (first_charge id m s stream)) (omega arith))

  -- they are at rest
  pub charges_rest : Each IsAtRest charges
  charges_rest = subst (Each IsAtRest) (sym are) (all_rest id side 0 1 n)

  -- there are as many as streams
  pub charges_many : length charges ≡ n
  charges_many = ap length are ∙ charges_length id side 0 1 n

  -- a pump drives them, which is of their side
  pub charges_driven : (window : ℕ) → 1 ≤ n → 1 ≤ window → window ≤ 64 → CanBeDriven charges window
  charges_driven window some least greatest =
      let wide = streams_length id side 0 1 n in let many = charges_many in record {
        some = omega arith;
        side = side;
        one_side = subst (Each (IsOfSide side)) (sym are) (all_of_side id side 0 1 n);
        rising = subst (λ (cs : List ChargeState). IsStrictlyIncreasing (map (λ c. c.stream) cs)) (sym are)
            (λ j lt. let a = stream_at id side 0 1 n j 0 (omega arith) in let b = stream_at id side 0 1 n (j + 1) 0 (omega arith) in omega arith);
        least = least;
        greatest = greatest;
      }

  pub side_of_pump : {W : Type 0} (s : Station W) → 1 ≤ n → s.charges ≡ charges → IsStation s → s.host.side ≡ side
  side_of_pump s some same station =
      one_side (charges_of id 0 (sides_from side 1 n)) (let long = charges_length id side 0 1 n in omega arith) (subst (Each (IsOfSide s.host.side)) (same ∙ are) station.sides) (all_of_side id side 0 1 n)
