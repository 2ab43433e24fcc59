-- What is made on a stream is numbered in its order.
use Rattle.std.proofs.Common.{◌≡◌, ◌≢◌, ℕ, ◌+◌, ◌≤◌, ◌<◌, Bool, true, false, cond, not, Option, None, Some, List, [], ◌∷◌, length, refl, sym, ◌∙◌, ap, subst, arith, ◌⊎◌, inl, inr, eqb}
use Rattle.std.specs.List.{Contains, count_by}
use Rattle.std.specs.Prelude.{bytes_eq}
use Rattle.std.proofs.lemmas.Bool.{eqb-true}
use Rattle.std.proofs.lemmas.Bool.Decides.{eqb_tells}
use Rattle.std.proofs.lemmas.List.Elements.{Contains-append_cases, Contains-append_right}
use Rattle.std.proofs.lemmas.List.Sums.{sum_by-cons}
use Rattle.amo_door.specs.declared.claim.Claim.{Claim}
use Rattle.amo_door.specs.declared.claim.Made.{Made}
use Rattle.amo_door.specs.declared.claim.Decision.{Decision}
use Rattle.amo_door.specs.declared.claim.Decision.TheVariants.{Next, Again, Conflict, OtherLife}
use Rattle.amo_door.specs.Numbers.{chosen, decision, number_of}
use Rattle.amo_door.specs.Turns.{Answer, Fresh, Repeated, Stands, Gone, NotNow, Turn, Claimed, Unclaimed, AreNumbered, AreRight, Answers, IsMadeFor, IsRightTurn, all_made, fresh, in_front, last_made, makes, newest}

-- an element is the first one, or one of the others
pub contains_cases : {X : Type 0} (x y : X) (xs : List X) → Contains (x ∷ xs) y → (x ≡ y) ⊎ Contains xs y
contains_cases x y xs h =
    elim (Contains-append_cases (x ∷ []) xs y h) [
      | inl (k, less, is) ↦ inl (subst (λ (n : ℕ). Rattle.std.proofs.Common.get_or (x ∷ []) n y ≡ y) (zero_below k less) is)
      | inr more ↦ inr more
    ]
  where
    zero_below : (k : ℕ) → k < 1 → k ≡ 0
    zero_below k less = omega arith

-- an element stays one behind another
pub contains_more : (o : Option Made) (all : List Made) (made : Made) → Contains all made → Contains (in_front o all) made
contains_more None all made h = h
contains_more (Some x) all made h = Contains-append_right (x ∷ []) all made h

-- what is numbered has as its last number how many there are
pub last_number : (all : List Made) → AreNumbered all → number_of (newest all) ≡ length all
last_number [] h = refl
last_number (made ∷ older) h = omega (arith, h.0)

-- the next number alone is decided to be next
next_is : (life : List ℕ) (last : Option Made) (claim : Claim) (again : Bool) → chosen life last claim again ≡ Next → claim.number ≡ number_of last + 1
next_is life last claim again h = next_of (not (bytes_eq life claim.life)) again (eqb claim.number (number_of last + 1)) claim.number (number_of last + 1) refl h
  where
    next_of : (other again is_next : Bool) (m n : ℕ) → eqb m n ≡ is_next → cond other OtherLife (cond again Again (cond is_next Next Conflict)) ≡ Next → m ≡ n
    next_of true again is_next m n e h = cc
    next_of false true is_next m n e h = cc
    next_of false false true m n e h = eqb-true m n e
    next_of false false false m n e h = cc

-- something is made for a claim where it is decided that it is next
fresh_is_next : (d : Decision) (last : Option Made) (claim : Claim) (brings : Option (List ℕ)) (made : Made) → Answers d last claim brings (Fresh made) → (d ≡ Next) × IsMadeFor claim brings made
fresh_is_next Next last claim brings made h = (refl, h)
fresh_is_next Again last claim brings made h = absurd h
fresh_is_next Conflict last claim brings made h = absurd h
fresh_is_next OtherLife last claim brings made h = absurd h

-- what is made for a claim has the next number
pub fresh_number : (life : List ℕ) (last : Option Made) (claim : Claim) (brings : Option (List ℕ)) (made : Made)
    → Answers (decision life last claim brings) last claim brings (Fresh made) → (made.number ≡ number_of last + 1) × IsMadeFor claim brings made
fresh_number life last claim brings made h =
    let it = fresh_is_next (decision life last claim brings) last claim brings made h in
    (it.1.number ∙ next_is life last claim (Rattle.amo_door.specs.Numbers.is_made_for claim brings last) it.0, it.1)

-- one more is numbered where it has the next number
one_more : (o : Option Made) (all : List Made) → AreNumbered all → ((made : Made) → o ≡ Some made → made.number ≡ number_of (newest all) + 1) → AreNumbered (in_front o all)
one_more None all h next = h
one_more (Some made) all h next = (next made refl ∙ ap (λ (n : ℕ). n + 1) (last_number all h), h)

-- what is made on a stream where that is this one
on_stream : (on stream : ℕ) (o : Option Made) (made : Made) → cond (eqb on stream) o None ≡ Some made → (on ≡ stream) × (o ≡ Some made)
on_stream on stream o made h =
    elim (eqb_tells on stream) [
      | inl same ↦ (same.1, sym (ap (λ (b : Bool). cond b o None) same.0) ∙ h)
      | inr other ↦ absurd (none_is_some (sym (ap (λ (b : Bool). cond b o None) other.0) ∙ h))
    ]
  where
    none_is_some : {made : Made} → None ≡ Some made → ⊥
    none_is_some e = cc

-- what an answer made now is fresh
fresh_of : (answer : Answer) (made : Made) → fresh answer ≡ Some made → answer ≡ Fresh made
fresh_of (Fresh x) made h = cc
fresh_of (Repeated x) made h = cc
fresh_of (Stands n) made h = cc
fresh_of Gone made h = cc
fresh_of NotNow made h = cc

-- what a right turn makes on a stream has the next number there
turn_number : (life : List ℕ) (past : List Turn) (turn : Turn) (stream : ℕ) → IsRightTurn life past turn → (made : Made) → makes stream turn ≡ Some made → made.number ≡ number_of (last_made stream past) + 1
turn_number life past (Claimed claim brings answer) stream right made h =
    let on = on_stream claim.stream stream (fresh answer) made h in
    let answers = subst (λ (a : Answer). Answers (decision life (last_made claim.stream past) claim brings) (last_made claim.stream past) claim brings a) (fresh_of answer made on.1) right in
    subst (λ (s : ℕ). made.number ≡ number_of (last_made s past) + 1) on.0 (fresh_number life (last_made claim.stream past) claim brings made answers).0
turn_number life past (Unclaimed of put) stream right made h =
    let on = on_stream of stream (Some put) made h in
    let same : put ≡ made = cc on.1 in
    subst (λ (m : Made). m.number ≡ number_of (last_made stream past) + 1) same (subst (λ (s : ℕ). put.number ≡ number_of (last_made s past) + 1) on.0 right.0)

-- what right turns make is numbered
pub numbered : (life : List ℕ) (stream : ℕ) (turns : List Turn) → AreRight life turns → AreNumbered (all_made stream turns)
numbered life stream [] right = tt
numbered life stream (turn ∷ past) right =
    one_more (makes stream turn) (all_made stream past) (numbered life stream past right.1) (turn_number life past turn stream right.0)

-- no number is greater than how many there are
within : (all : List Made) → AreNumbered all → (made : Made) → Contains all made → made.number ≤ length all
within [] h made (k, less, is) = omega arith
within (x ∷ older) h made has =
    elim (contains_cases x made older has) [
      | inl same ↦ let n : made.number ≡ length older + 1 = sym (ap (λ (m : Made). m.number) same) ∙ h.0 in omega arith
      | inr more ↦ let n = within older h.1 made more in omega (arith, n)
    ]

-- one number is that of one thing
pub one_each : (all : List Made) → AreNumbered all → (made again : Made) → Contains all made → Contains all again → again.number ≡ made.number → again ≡ made
one_each [] h made again (k, less, is) has e = absurd (omega arith)
one_each (x ∷ older) h made again has had e =
    elim (contains_cases x made older has) [
      | inl same ↦ elim (contains_cases x again older had) [
        | inl too ↦ sym too ∙ same
        | inr more ↦ absurd (let n = within older h.1 again more in let m : made.number ≡ length older + 1 = sym (ap (λ (m : Made). m.number) same) ∙ h.0 in omega (arith, n, m, e))
      ]
      | inr older_one ↦ elim (contains_cases x again older had) [
        | inl too ↦ absurd (let n = within older h.1 made older_one in let m : again.number ≡ length older + 1 = sym (ap (λ (m : Made). m.number) too) ∙ h.0 in omega (arith, n, m, e))
        | inr more ↦ one_each older h.1 made again older_one more e
      ]
    ]

-- no number past how many there are occurs
none_past : (all : List Made) (number : ℕ) → AreNumbered all → length all < number → count_by (λ made. eqb made.number number) all ≡ 0
none_past [] number h past = refl
none_past (x ∷ older) number h past =
    let rest = none_past older number h.1 (omega arith) in
    let differs : eqb x.number number ≡ false = grind (arith, Rattle.std.proofs.lemmas.Bool.Decides.nat_tests, h.0) in
    rw differs rest

-- what a test counts
abbrev counted : Bool → ℕ
counted b = cond b 1 0

-- each number occurs once at most
pub once : (all : List Made) (number : ℕ) → AreNumbered all → count_by (λ made. eqb made.number number) all ≤ 1
once [] number h = omega arith
once (x ∷ older) number h =
    let parts = sum_by-cons (λ (made : Made). counted (eqb made.number number)) x older in
    elim (eqb_tells x.number number) [
      | inl same ↦
          let past : length older < number = omega (arith, h.0, same.1) in
          let one : counted (eqb x.number number) ≡ counted true = ap counted same.0 in
          rw parts (omega (arith, one, none_past older number h.1 past))
      | inr other ↦
          let none : counted (eqb x.number number) ≡ counted false = ap counted other.0 in
          rw parts (omega (arith, none, once older number h.1))
    ]
