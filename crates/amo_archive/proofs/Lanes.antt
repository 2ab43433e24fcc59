-- Lemmas about the owners of puts.
use Rattle.std.proofs.Common.{◌≡◌, ℕ, zero, suc, nat_lt, not, ◌&&◌, ◌^◌, min, ◌+◌, ◌-◌, ◌<◌, ◌≤◌, ◌==◌, Bool, true, false, Option, Some, None, List, [], ◌∷◌, ◌++◌, replicate, length, refl, sym, ◌∙◌, ap, subst, arith, if◌then◌else◌}
use Rattle.amo_archive.specs.declared.lane.Owner.{Owner}
use Rattle.std.specs.List.{flat_map}
use Rattle.std.proofs.lemmas.Bool.{eqb-true, ltb-true, ltb-false}
use Rattle.std.proofs.lemmas.List.{append_assoc, length-append, length-replicate}
use Rattle.amo_archive.specs.declared.lane.Section.{Section}
use Rattle.amo_archive.specs.Lane.{behind_puts, left_behind, message_of, owns, section_owners, stands_in}

not_one : (n : ℕ) → (n ≡ 1 → ⊥) → (n == 1) ≡ false
not_one n other = by (n == 1) refl
  where
    by : (b : Bool) → (n == 1) ≡ b → (n == 1) ≡ false
    by true is = absurd (other (eqb-true n 1 is))
    by false is = is

-- what it says that a message stands in a section of so many puts, or not
bounds : (count n : ℕ) → nat_lt 0 n && not (nat_lt count n) ≡ true → (1 ≤ n) × (n ≤ count)
bounds count n stands = by (nat_lt 0 n) (nat_lt count n) refl refl stands
  where
    by : (b d : Bool) → nat_lt 0 n ≡ b → nat_lt count n ≡ d → b && not d ≡ true → (1 ≤ n) × (n ≤ count)
    by true false some few is = (omega (arith, ltb-true 0 n some), ltb-false count n few)
    by true true some few is = cc
    by false d some few is = cc

beyond : (count k : ℕ) → nat_lt 0 (suc k) && not (nat_lt count (suc k)) ≡ false → count < suc k
beyond count k stands = by (nat_lt 0 (suc k)) (nat_lt count (suc k)) refl refl stands
  where
    by : (b d : Bool) → nat_lt 0 (suc k) ≡ b → nat_lt count (suc k) ≡ d → b && not d ≡ false → count < suc k
    by true true some few is = ltb-true count (suc k) few
    by true false some few is = cc
    by false d none few is = absurd (omega (arith, ltb-false 0 (suc k) none))

-- one put more at the end
pub one_more : (count : ℕ) (owner : Owner) → replicate (count + 1) owner ≡ replicate count owner ++ owner ∷ []
one_more zero owner = refl
one_more (suc count) owner =
    let same : suc count + 1 ≡ suc (count + 1) = omega arith in
    ap (λ (n : ℕ). replicate n owner) same ∙ ap (λ (l : List Owner). owner ∷ l) (one_more count owner)

-- further and further behind
pub behind_none : (m : Option (ℕ × Bool)) → behind_puts 0 m ≡ m
behind_none None = refl
behind_none (Some (put, doubtful)) = ap (λ (n : ℕ). Some (n, doubtful)) (omega arith)

pub behind_more : (a b c : ℕ) → c ≡ a + b → (m : Option (ℕ × Bool)) → behind_puts a (behind_puts b m) ≡ behind_puts c m
behind_more a b c is None = refl
behind_more a b c is (Some (put, doubtful)) = ap (λ (n : ℕ). Some (n, doubtful)) (omega (arith, is))

-- of one more that is another's
other_first : (life number : ℕ) (owner : Owner) (rest : List Owner) → owns life owner ≡ false → message_of life number (owner ∷ rest) ≡ behind_puts 1 (message_of life number rest)
other_first life number owner rest is =
    ap (λ (b : Bool). if b then (if number == 1 then Some (0, owner.is_doubtful) else behind_puts 1 (message_of life (number - 1) rest)) else behind_puts 1 (message_of life number rest)) is

own_first : (life number : ℕ) (owner : Owner) (rest : List Owner) → owns life owner ≡ true → message_of life number (owner ∷ rest) ≡ (if number == 1 then Some (0, owner.is_doubtful) else behind_puts 1 (message_of life (number - 1) rest))
own_first life number owner rest is =
    ap (λ (b : Bool). if b then (if number == 1 then Some (0, owner.is_doubtful) else behind_puts 1 (message_of life (number - 1) rest)) else behind_puts 1 (message_of life number rest)) is

-- puts of another owner are passed over
pub pass_others : (life number count : ℕ) (owner : Owner) (rest : List Owner) → owns life owner ≡ false
    → message_of life number (replicate count owner ++ rest) ≡ behind_puts count (message_of life number rest)
pass_others life number zero owner rest is = sym (behind_none (message_of life number rest))
pass_others life number (suc count) owner rest is =
    other_first life number owner (replicate count owner ++ rest) is ∙ (ap (behind_puts 1) (pass_others life number count owner rest is) ∙ behind_more 1 count (suc count) (omega arith) (message_of life number rest))

-- and so are those of the life itself, where the number is 0
pub pass_own_of_none : (life count : ℕ) (owner : Owner) (rest : List Owner) → owns life owner ≡ true
    → message_of life 0 (replicate count owner ++ rest) ≡ behind_puts count (message_of life 0 rest)
pass_own_of_none life zero owner rest is = sym (behind_none (message_of life 0 rest))
pass_own_of_none life (suc count) owner rest is =
    own_first life 0 owner (replicate count owner ++ rest) is ∙ (ap (behind_puts 1) (pass_own_of_none life count owner rest is) ∙ behind_more 1 count (suc count) (omega arith) (message_of life 0 rest))

-- or where they are too few
pub pass_own : (life number count : ℕ) (owner : Owner) (rest : List Owner) → owns life owner ≡ true → count < number
    → message_of life number (replicate count owner ++ rest) ≡ behind_puts count (message_of life (number - count) rest)
pass_own life number zero owner rest is few =
    let same : number ≡ number - 0 = omega arith in
    ap (λ (n : ℕ). message_of life n rest) same ∙ sym (behind_none (message_of life (number - 0) rest))
pass_own life number (suc count) owner rest is few =
    let other : (number == 1) ≡ false = not_one number (λ one. omega (arith, few, one)) in
    let fewer : count < number - 1 = omega (arith, few) in
    let same : number - 1 - count ≡ number - suc count = omega arith in
    own_first life number owner (replicate count owner ++ rest) is
    ∙ (ap (λ (b : Bool). if b then Some (0, owner.is_doubtful) else behind_puts 1 (message_of life (number - 1) (replicate count owner ++ rest))) other
    ∙ (ap (behind_puts 1) (pass_own life (number - 1) count owner rest is fewer ∙ ap (λ (n : ℕ). behind_puts count (message_of life n rest)) same)
    ∙ behind_more 1 count (suc count) (omega arith) (message_of life (number - suc count) rest)))

-- the put stands among those of a section
pub at_place : (life number count : ℕ) (owner : Owner) (rest : List Owner) → owns life owner ≡ true → 1 ≤ number → number ≤ count
    → message_of life number (replicate count owner ++ rest) ≡ Some (number - 1, owner.is_doubtful)
at_place life number zero owner rest is some within = absurd (omega (arith, some, within))
at_place life zero (suc count) owner rest is some within = absurd (omega (arith, some))
at_place life (suc zero) (suc count) owner rest is some within = own_first life 1 owner (replicate count owner ++ rest) is
at_place life (suc (suc k)) (suc count) owner rest is some within =
    let other : (suc (suc k) == 1) ≡ false = not_one (suc (suc k)) (λ one. omega (arith, one)) in
    let fewer : suc k ≤ count = omega (arith, within) in
    let number : suc (suc k) - 1 ≡ suc k = omega arith in
    let place : suc k - 1 + 1 ≡ suc (suc k) - 1 = omega arith in
    own_first life (suc (suc k)) owner (replicate count owner ++ rest) is
    ∙ (ap (λ (b : Bool). if b then Some (0, owner.is_doubtful) else behind_puts 1 (message_of life (suc (suc k) - 1) (replicate count owner ++ rest))) other
    ∙ (ap (λ (n : ℕ). behind_puts 1 (message_of life n (replicate count owner ++ rest))) number
    ∙ (ap (behind_puts 1) (at_place life (suc k) count owner rest is (omega arith) fewer)
    ∙ ap (λ (n : ℕ). Some (n, owner.is_doubtful)) place)))

-- the message stands in a section
pub found_in : (life number : ℕ) (section : Section) (more : List Owner) → stands_in life number section ≡ true
    → message_of life number (section_owners section ++ more) ≡ Some (number - 1, section.owner.is_doubtful)
found_in life number section more is = by (owns life section.owner) refl is
  where
    by : (b : Bool) → owns life section.owner ≡ b → b && (nat_lt 0 number && not (nat_lt section.count number)) ≡ true → message_of life number (section_owners section ++ more) ≡ Some (number - 1, section.owner.is_doubtful)
    by true own stands = at_place life number section.count section.owner more own (bounds section.count number stands).0 (bounds section.count number stands).1
    by false own stands = cc

-- or behind it
pub passed : (life number : ℕ) (section : Section) (more : List Owner) → stands_in life number section ≡ false
    → message_of life number (section_owners section ++ more) ≡ behind_puts section.count (message_of life (left_behind life number section) more)
passed life number section more is = by (owns life section.owner) refl is
  where
    own_by : (n : ℕ) → owns life section.owner ≡ true → nat_lt 0 n && not (nat_lt section.count n) ≡ false
        → message_of life n (section_owners section ++ more) ≡ behind_puts section.count (message_of life (n - section.count) more)
    own_by zero own stands =
        let same : 0 ≡ 0 - section.count = omega arith in
        pass_own_of_none life section.count section.owner more own ∙ ap (λ (n : ℕ). behind_puts section.count (message_of life n more)) same
    own_by (suc k) own stands = pass_own life (suc k) section.count section.owner more own (beyond section.count k stands)

    by : (b : Bool) → owns life section.owner ≡ b → b && (nat_lt 0 number && not (nat_lt section.count number)) ≡ false
        → message_of life number (section_owners section ++ more) ≡ behind_puts section.count (message_of life (if b then number - section.count else number) more)
    by true own stands = own_by number own stands
    by false own stands = pass_others life number section.count section.owner more own

-- how many puts there are from a section on
count_from : (section : Section) (more : List Owner) → length (section_owners section ++ more) ≡ section.count + length more
count_from section more = length-append (section_owners section) more ∙ ap (λ (n : ℕ). n + length more) (length-replicate section.count section.owner)

module _ (life number left put : ℕ) (here rest : List Section) (section : Section) (all : List Owner) (split : here ≡ section ∷ rest) (few : length all < 2 ^ 64)
    (found : message_of life number all ≡ behind_puts put (message_of life left (flat_map section_owners here)))
    (counted : put + length (flat_map section_owners here) ≡ length all) where
  counts : put + (section.count + length (flat_map section_owners rest)) ≡ length all
  counts = ap (λ (n : ℕ). put + n) (sym (count_from section (flat_map section_owners rest))) ∙ (ap (λ (l : List Section). put + length (flat_map section_owners l)) (sym split) ∙ counted)

  -- the message is not in this section
  pub goes_past : (later left' : ℕ) → stands_in life left section ≡ false → left' ≡ left_behind life left section → later ≡ min (put + section.count) (2 ^ 64 - 1)
      → (message_of life number all ≡ behind_puts later (message_of life left' (flat_map section_owners rest))) × (later + length (flat_map section_owners rest) ≡ length all)
  goes_past later left' not_here is_left is_later =
      let exact : later ≡ put + section.count = omega (arith, is_later, counts, few) in
      let back : put + section.count ≡ later = sym exact in (
        found ∙ (ap (λ (l : List Section). behind_puts put (message_of life left (flat_map section_owners l))) split
            ∙ (ap (behind_puts put) (passed life left section (flat_map section_owners rest) not_here ∙ ap (λ (n : ℕ). behind_puts section.count (message_of life n (flat_map section_owners rest))) (sym is_left))
            ∙ behind_more put section.count later exact (message_of life left' (flat_map section_owners rest)))),
        omega (arith, exact, counts),
      )

  -- it is in this section
  pub is_here : (place before : ℕ) → stands_in life left section ≡ true → before ≡ left - 1 → place ≡ min (put + before) (2 ^ 64 - 1) → Some (place, section.owner.is_doubtful) ≡ message_of life number all
  is_here place before here_it_is is_before is_place =
      let within : left ≤ section.count = in_section (owns life section.owner) here_it_is in
      let exact : before + put ≡ place = omega (arith, is_place, is_before, counts, few, within) in
      sym (found ∙ (ap (λ (l : List Section). behind_puts put (message_of life left (flat_map section_owners l))) split
      ∙ (ap (behind_puts put) (found_in life left section (flat_map section_owners rest) here_it_is)
      ∙ ap (λ (n : ℕ). Some (n, section.owner.is_doubtful)) (ap (λ (n : ℕ). n + put) (sym is_before) ∙ exact))))
    where
      in_section : (b : Bool) → b && (nat_lt 0 left && not (nat_lt section.count left)) ≡ true → left ≤ section.count
      in_section true stands = (bounds section.count left stands).1
      in_section false stands = cc
