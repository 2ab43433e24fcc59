-- Parts of lists, and lists of numbers that rise.
use Rattle.std.proofs.Common.{ℕ, suc, ◌≤◌, ◌<◌, ◌+◌, List, [], ◌∷◌, ◌++◌, take, drop, subst, inl, inr, arith}
use Rattle.std.specs.List.{Contains}
use Rattle.amo_object.specs.Delivery.{IsSubsequence, empty, keep, leave_out}
use Rattle.amo_world.proofs.Lists.{contains_nothing, contains_cases, contains_first, contains_other}

module _ {X : Type 0} where
  pub part_none : (ys : List X) → IsSubsequence [] ys
  part_none [] = empty
  part_none (y ∷ ys) = leave_out (part_none ys)

  pub part_same : (xs : List X) → IsSubsequence xs xs
  part_same [] = empty
  part_same (x ∷ xs) = keep (part_same xs)

  -- with the same before both
  pub part_before : (front : List X) {xs ys : List X} → IsSubsequence xs ys → IsSubsequence (front ++ xs) (front ++ ys)
  part_before [] sub = sub
  part_before (x ∷ front) sub = keep (part_before front sub)

  -- and with more before the second alone
  pub part_behind : (front : List X) {xs ys : List X} → IsSubsequence xs ys → IsSubsequence xs (front ++ ys)
  part_behind [] sub = sub
  part_behind (x ∷ front) sub = leave_out (part_behind front sub)

  -- with the same after both
  pub part_after : {xs ys : List X} (more : List X) → IsSubsequence xs ys → IsSubsequence (xs ++ more) (ys ++ more)
  part_after more empty = part_same more
  part_after more (keep sub) = keep (part_after more sub)
  part_after more (leave_out sub) = leave_out (part_after more sub)

  -- a part has nothing that the whole has not
  pub part_contains : {xs ys : List X} → IsSubsequence xs ys → (x : X) → Contains xs x → Contains ys x
  part_contains empty x c = c
  part_contains (keep {x = z} {xs = xs} {ys = ys} sub) x c = elim (contains_cases z xs x c) [
    | inl same ↦ subst (Contains (z ∷ ys)) same (contains_first z ys)
    | inr other ↦ contains_other z ys x (part_contains sub x other)
  ]
  part_contains (leave_out {y = y} {ys = ys} sub) x c = contains_other y ys x (part_contains sub x c)

-- these numbers rise, from a number on and below another
abbrev pub Rises : ℕ → List ℕ → ℕ → Type 0
Rises low [] high = low ≤ high
Rises low (n ∷ ns) high = (low ≤ n) × Rises (suc n) ns high

pub rises_lower : (low from : ℕ) (ns : List ℕ) (high : ℕ) → low ≤ from → Rises from ns high → Rises low ns high
rises_lower low from [] high less r = omega (arith, less, r)
rises_lower low from (n ∷ ns) high less r = (omega (arith, less, r.0), r.1)

pub rises_part : {ns ms : List ℕ} → IsSubsequence ns ms → (low high : ℕ) → Rises low ms high → Rises low ns high
rises_part empty low high r = r
rises_part (keep {x = n} sub) low high r = (r.0, rises_part sub (suc n) high r.1)
rises_part (leave_out {y = m} {ys = ms} sub) low high r =
    rises_part sub low high (rises_lower low (suc m) ms high (omega (arith, r.0)) r.1)

-- the next number at the end
pub rises_push : (low : ℕ) (ns : List ℕ) (high : ℕ) → Rises low ns high → Rises low (ns ++ high ∷ []) (high + 1)
rises_push low [] high r = (r, omega arith)
rises_push low (n ∷ ns) high r = (r.0, rises_push (suc n) ns high r.1)

pub rises_contains : (low : ℕ) (ns : List ℕ) (high n : ℕ) → Rises low ns high → Contains ns n → (low ≤ n) × (n < high)
rises_contains low [] high n r c = absurd (contains_nothing n c)
rises_contains low (m ∷ ms) high n r c = elim (contains_cases m ms n c) [
  | inl same ↦ (omega (arith, same, r.0), omega (arith, same, ends (suc m) ms r.1))
  | inr other ↦ let there = rises_contains (suc m) ms high n r.1 other in (omega (arith, r.0, there.0), there.1)
]
  where
    ends : (from : ℕ) (ms : List ℕ) → Rises from ms high → from ≤ high
    ends from [] r = r
    ends from (m ∷ ms) r = omega (arith, r.0, ends (suc m) ms r.1)

-- what stands before is less
pub rises_apart : (low : ℕ) (ns ms : List ℕ) (high n m : ℕ) → Rises low (ns ++ ms) high → Contains ns n → Contains ms m → n < m
rises_apart low [] ms high n m r c d = absurd (contains_nothing n c)
rises_apart low (k ∷ ns) ms high n m r c d = elim (contains_cases k ns n c) [
  | inl same ↦ omega (arith, same, (rises_contains (suc k) (ns ++ ms) high m r.1 (behind ns d)).0)
  | inr other ↦ rises_apart (suc k) ns ms high n m r.1 other d
]
  where
    behind : (front : List ℕ) → Contains ms m → Contains (front ++ ms) m
    behind [] d = d
    behind (x ∷ front) d = contains_other x (front ++ ms) m (behind front d)

-- the first one, and a part of the others
pub part_next : (ns left more : List ℕ) → IsSubsequence left (drop 1 ns) → IsSubsequence (take 1 ns ++ (left ++ more))
    (ns ++ more)
part_next [] left more sub = part_after more sub
part_next (n ∷ ns) left more sub = keep (part_after more sub)
