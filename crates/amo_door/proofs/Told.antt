-- What callers are told was made for them.
use Rattle.std.proofs.Common.{◌≡◌, ℕ, ◌+◌, ◌&&◌, Bool, true, false, cond, not, Option, None, Some, List, [], ◌∷◌, refl, sym, ◌∙◌, ap, subst, arith, rules, inl, inr, eqb}
use Rattle.std.specs.List.{Contains}
use Rattle.std.specs.Prelude.{bytes_eq}
use Rattle.std.proofs.lemmas.Bool.{eq-eqb, eqb-true}
use Rattle.std.proofs.lemmas.Slice.Eq.{bytes_eq-Decides}
use Rattle.amo_door.specs.declared.claim.Claim.{Claim}
use Rattle.amo_door.specs.declared.claim.Made.{Made}
use Rattle.amo_door.specs.declared.claim.Decision.{Decision}
use Rattle.amo_door.specs.declared.claim.Decision.TheVariants.{Next, Again, Conflict, OtherLife}
use Rattle.amo_door.specs.Numbers.{chosen, decision, is_brought, is_by, is_for, is_made_for, number_of}
use Rattle.amo_door.specs.Turns.{Answer, Fresh, Repeated, Stands, Gone, NotNow, Turn, Claimed, Answers, AreRight, Bears, IsMadeFor, IsRightTurn, all_made, in_front, last_made, makes, newest, told}
use Rattle.amo_door.proofs.Order.{contains_cases, contains_more, fresh_number, numbered, one_each}

-- both tests pass where both together do
both : (a b : Bool) → (a && b) ≡ true → (a ≡ true) × (b ≡ true)
both true true h = (refl, refl)
both true false h = cc
both false b h = cc

-- texts that the test takes for one are one
same_text : (xs ys : List ℕ) → bytes_eq xs ys ≡ true → xs ≡ ys
same_text xs ys h = search (rules, bytes_eq-Decides xs ys, h)

-- where the test says so, this was made for such a claim
for_claim : (claim : Claim) (brings : Option (List ℕ)) (made : Made) → is_made_for claim brings (Some made) ≡ true → IsMadeFor claim brings made
for_claim claim brings made h =
    let parts = both (is_for made claim) (is_brought brings made.message) h in
    let ours = both (eqb made.number claim.number) (is_by made.by claim.by) parts.0 in
    record {
      number = eqb-true made.number claim.number ours.0;
      by = by_caller made.by ours.1;
      message = brought brings made.message parts.1;
    }
  where
    by_caller : (by : Option (List ℕ)) → is_by by claim.by ≡ true → by ≡ Some claim.by
    by_caller None e = cc
    by_caller (Some by) e = ap (λ (text : List ℕ). Some text) (same_text by claim.by e)

    brought : (brings : Option (List ℕ)) (message : List ℕ) → is_brought brings message ≡ true → Bears brings message
    brought None message e = tt
    brought (Some text) message e = sym (same_text text message e)

-- it is decided that a claim comes again where the last thing was made for it
again_is : (life : List ℕ) (last : Option Made) (claim : Claim) (again : Bool) → chosen life last claim again ≡ Again → again ≡ true
again_is life last claim again h = go (not (bytes_eq life claim.life)) again (eqb claim.number (number_of last + 1)) h
  where
    go : (other again is_next : Bool) → cond other OtherLife (cond again Again (cond is_next Next Conflict)) ≡ Again → again ≡ true
    go true again is_next e = cc
    go false true is_next e = refl
    go false false true e = cc
    go false false false e = cc

-- something was made for a claim before where it is decided that it comes again
repeated_is_again : (d : Decision) (last : Option Made) (claim : Claim) (brings : Option (List ℕ)) (made : Made) → Answers d last claim brings (Repeated made) → (d ≡ Again) × (last ≡ Some made)
repeated_is_again Next last claim brings made h = absurd h
repeated_is_again Again last claim brings made h = (refl, h)
repeated_is_again Conflict last claim brings made h = absurd h
repeated_is_again OtherLife last claim brings made h = absurd h

-- the newest is one of all
has_newest : (all : List Made) (made : Made) → newest all ≡ Some made → Contains all made
has_newest [] made h = cc
has_newest (x ∷ older) made h = let same : x ≡ made = cc h in (0, omega arith, same)

-- what is in front is one of all
has_front : (o : Option Made) (all : List Made) (made : Made) → o ≡ Some made → Contains (in_front o all) made
has_front None all made h = cc
has_front (Some x) all made h = let same : x ≡ made = cc h in (0, omega arith, same)

-- what a right turn tells was made for its claim, now or before
tells : (life : List ℕ) (past : List Turn) (claim : Claim) (brings : Option (List ℕ)) (answer : Answer) (made : Made) → IsRightTurn life past (Claimed claim brings answer) → told answer ≡ Some made
    → IsMadeFor claim brings made × Contains (all_made claim.stream (Claimed claim brings answer ∷ past)) made
tells life past claim brings (Fresh x) made right h =
    let same : x ≡ made = cc h in
    let it = fresh_number life (last_made claim.stream past) claim brings x right in
    (subst (λ (m : Made). IsMadeFor claim brings m) same it.1, has_front (cond (eqb claim.stream claim.stream) (Some x) None) (all_made claim.stream past) made (here claim.stream x made same))
  where
    here : (stream : ℕ) (x made : Made) → x ≡ made → cond (eqb stream stream) (Some x) None ≡ Some made
    here stream x made e = ap (λ (b : Bool). cond b (Some x) None) (eq-eqb stream stream refl) ∙ ap (λ (m : Made). Some m) e
tells life past claim brings (Repeated x) made right h =
    let same : x ≡ made = cc h in
    let last = last_made claim.stream past in
    let it = repeated_is_again (decision life last claim brings) last claim brings x right in
    let was : last ≡ Some made = it.1 ∙ ap (λ (m : Made). Some m) same in
    let ours = subst (λ (o : Option Made). is_made_for claim brings o ≡ true) was (again_is life last claim (is_made_for claim brings last) it.0) in
    (for_claim claim brings made ours, contains_more (cond (eqb claim.stream claim.stream) None None) (all_made claim.stream past) made (has_newest (all_made claim.stream past) made was))
tells life past claim brings (Stands n) made right h = cc
tells life past claim brings Gone made right h = cc
tells life past claim brings NotNow made right h = cc

-- what is told was made for the claim
pub all_tell : (life : List ℕ) (turns : List Turn) (claim : Claim) (brings : Option (List ℕ)) (answer : Answer) (made : Made) → AreRight life turns → Contains turns (Claimed claim brings answer) → told answer ≡ Some made
    → IsMadeFor claim brings made × Contains (all_made claim.stream turns) made
all_tell life [] claim brings answer made right (k, less, is) h = absurd (omega arith)
all_tell life (turn ∷ past) claim brings answer made right has h =
    elim (contains_cases turn (Claimed claim brings answer) past has) [
      | inl same ↦
          let it = tells life past claim brings answer made (subst (λ (t : Turn). IsRightTurn life past t) same right.0) h in
          (it.0, subst (λ (t : Turn). Contains (all_made claim.stream (t ∷ past)) made) (sym same) it.1)
      | inr more ↦
          let it = all_tell life past claim brings answer made right.1 more h in
          (it.0, contains_more (makes claim.stream turn) (all_made claim.stream past) made it.1)
    ]

-- two claims for one number are told one thing
pub told_one : (life : List ℕ) (turns : List Turn) (claim other : Claim) (brings brought : Option (List ℕ)) (answer given : Answer) (made again : Made) → AreRight life turns
    → Contains turns (Claimed claim brings answer) → Contains turns (Claimed other brought given) → told answer ≡ Some made → told given ≡ Some again
    → other.stream ≡ claim.stream → other.number ≡ claim.number → (again ≡ made) × (other.by ≡ claim.by)
told_one life turns claim other brings brought answer given made again right has had h t stream number =
    let it = all_tell life turns claim brings answer made right has h in
    let too = all_tell life turns other brought given again right had t in
    let there = subst (λ (s : ℕ). Contains (all_made s turns) again) stream too.1 in
    let same : again ≡ made = one_each (all_made claim.stream turns) (numbered life claim.stream turns right) made again it.1 there (too.0.number ∙ (number ∙ sym it.0.number)) in
    let callers : Some other.by ≡ Some claim.by = sym too.0.by ∙ (ap (λ (m : Made). m.by) same ∙ it.0.by) in
    (same, cc callers)
