-- What is decided of a claim that comes again, and of one that is next.
use Rattle.std.proofs.Common.{◌≡◌, ◌≢◌, ℕ, ◌+◌, Bool, true, false, cond, not, Option, None, Some, List, refl, sym, ◌∙◌, ap, arith, rules, eqb}
use Rattle.std.specs.Prelude.{bytes_eq}
use Rattle.std.proofs.lemmas.Bool.{eq-eqb}
use Rattle.std.proofs.lemmas.Bool.Decides.{nat_tests}
use Rattle.std.proofs.lemmas.Slice.Eq.{bytes_eq-Decides}
use Rattle.amo_door.specs.declared.claim.Claim.{Claim}
use Rattle.amo_door.specs.declared.claim.Made.{Made}
use Rattle.amo_door.specs.declared.claim.Decision.TheVariants.{Next, Again, Conflict, OtherLife}
use Rattle.amo_door.specs.Numbers.{chosen, decision, is_brought, is_by, is_made_for, number_of}
use Rattle.amo_door.specs.Turns.{Bears, IsMadeFor}

-- the test takes texts that are one for one
text_same : (xs ys : List ℕ) → xs ≡ ys → bytes_eq xs ys ≡ true
text_same xs ys h = search (rules, bytes_eq-Decides xs ys, h)

-- in the life that is meant it is decided by these tests
in_life : (life : List ℕ) (last : Option Made) (claim : Claim) (again : Bool) → claim.life ≡ life → chosen life last claim again ≡ cond again Again (cond (eqb claim.number (number_of last + 1)) Next Conflict)
in_life life last claim again h = ap (λ (b : Bool). cond (not b) OtherLife (cond again Again (cond (eqb claim.number (number_of last + 1)) Next Conflict))) (text_same life claim.life (sym h))

-- the test says so of what was made for a claim
is_ours : (claim : Claim) (brings : Option (List ℕ)) (made : Made) → IsMadeFor claim brings made → is_made_for claim brings (Some made) ≡ true
is_ours claim brings made h =
    rw (eq-eqb made.number claim.number h.number, by_caller made.by h.by) (brought brings made.message h.message)
  where
    by_caller : (by : Option (List ℕ)) → by ≡ Some claim.by → is_by by claim.by ≡ true
    by_caller None e = cc
    by_caller (Some by) e = text_same by claim.by (cc e)

    brought : (brings : Option (List ℕ)) (message : List ℕ) → Bears brings message → is_brought brings message ≡ true
    brought None message e = refl
    brought (Some text) message e = text_same text message (sym e)

-- a claim for what was made last is known again
pub known_again : (life : List ℕ) (last : Option Made) (claim : Claim) (brings : Option (List ℕ)) (made : Made) → claim.life ≡ life → last ≡ Some made → IsMadeFor claim brings made
    → decision life last claim brings ≡ Again
known_again life last claim brings made here was h =
    let ours : is_made_for claim brings last ≡ true = ap (λ (o : Option Made). is_made_for claim brings o) was ∙ is_ours claim brings made h in
    in_life life last claim (is_made_for claim brings last) here ∙ ap (λ (b : Bool). cond b Again (cond (eqb claim.number (number_of last + 1)) Next Conflict)) ours

-- what was made last was made for no claim of another number
not_ours : (claim : Claim) (brings : Option (List ℕ)) (last : Option Made) → number_of last ≢ claim.number → is_made_for claim brings last ≡ false
not_ours claim brings None h = refl
not_ours claim brings (Some made) h =
    let differs : eqb made.number claim.number ≡ false = grind (arith, nat_tests, h) in
    rw differs refl

-- the next number is free
pub next_free : (life : List ℕ) (last : Option Made) (claim : Claim) (brings : Option (List ℕ)) → claim.life ≡ life → claim.number ≡ number_of last + 1 → decision life last claim brings ≡ Next
next_free life last claim brings here h =
    let other = not_ours claim brings last (λ (e : number_of last ≡ claim.number). omega (arith, e, h)) in
    in_life life last claim (is_made_for claim brings last) here
    ∙ (ap (λ (b : Bool). cond b Again (cond (eqb claim.number (number_of last + 1)) Next Conflict)) other
    ∙ ap (λ (b : Bool). cond b Next Conflict) (eq-eqb claim.number (number_of last + 1) h))
