-- What is kept of the ends of a stream's handshakes goes with them.
use Rattle.std.proofs.Common.{◌≡◌, ℕ, ◌+◌, ◌-◌, ◌<◌, ◌≤◌, ◌^◌, min, Bool, true, false, Option, Some, None, List, [], ◌∷◌, ◌++◌, refl, sym, ◌∙◌, ap, subst, length, get_or, set, slice_get, inl, inr, ◌⊎◌, ◌==◌, arith, if◌then◌else◌}
use Rattle.std.specs.Prelude.{nat_le, find, option_map, unwrap_or}
use Rattle.std.proofs.lemmas.Bool.{eq-eqb, eqb-true, leb-true, le-leb}
use Rattle.std.proofs.lemmas.Option.{slice_get_read}
use Rattle.amo_world.proofs.Lists.{set_cases}
use Rattle.amo_archive.specs.declared.handshakes.Run.{Run}
use Rattle.amo_archive.specs.declared.handshakes.Ended.{Ended}
use Rattle.amo_archive.specs.Handshakes.{Ending, Endings, Keeps, known_by, known_in, last_number, messages_of, was_got, with_end}

-- what is known, or else this, where it is one of the last
abbrev or_last : Option Bool → Bool → Bool → Option Bool
or_last None here got = if here then Some got else None
or_last (Some known) here got = Some known

-- what is known of a number where there is one run more
known_more : (number : ℕ) (runs : List Run) (run : Run) → known_in number (runs ++ run ∷ []) ≡ or_last (known_in number runs) (nat_le number run.last) run.was_got
known_more number [] run = by (nat_le number run.last)
  where
    by : (b : Bool) → option_map (λ (r : Run). r.was_got) (if b then Some run else None) ≡ (if b then Some run.was_got else None)
    by true = refl
    by false = refl
known_more number (first ∷ runs) run = by (nat_le number first.last) (known_more number runs run)
  where
    by : (b : Bool) → known_in number (runs ++ run ∷ []) ≡ or_last (known_in number runs) (nat_le number run.last) run.was_got → option_map (λ (r : Run). r.was_got) (if b then Some first else find (λ (r : Run). nat_le number r.last) (runs ++ run ∷ []))
        ≡ or_last (option_map (λ (r : Run). r.was_got) (if b then Some first else find (λ (r : Run). nat_le number r.last) runs)) (nat_le number run.last) run.was_got
    by true more = refl
    by false more = more

pub last_more : (runs : List Run) (run : Run) → last_number (runs ++ run ∷ []) ≡ run.last
last_more [] run = refl
last_more (first ∷ []) run = refl
last_more (first ∷ next ∷ runs) run = last_more (next ∷ runs) run

-- it is known by the ends so far, or by one more
by_more : (b c w got : Bool) → (b ≡ true → c ≡ true) → or_last (if b then Some w else None) c got ≡ (if c then Some (if b then w else (if c then got else false)) else None)
by_more true true w got within = refl
by_more true false w got within = absurd (never (within refl))
  where
    never : false ≡ true → ⊥
    never e = cc
by_more false true w got within = refl
by_more false false w got within = refl

-- the same where the last run goes on
by_longer : (o : Option Bool) (b c w got : Bool) → (b ≡ true → c ≡ true) → or_last o b got ≡ (if b then Some w else None) → or_last o c got ≡ (if c then Some (if b then w else (if c then got else false)) else None)
by_longer (Some x) true true w got within is = is
by_longer (Some x) true false w got within is = absurd (cc_of (within refl))
  where
    cc_of : false ≡ true → ⊥
    cc_of e = cc
by_longer (Some x) false c w got within is = absurd (never is)
  where
    never : Some x ≡ None → ⊥
    never e = cc
by_longer None true true w got within is = is
by_longer None true false w got within is = absurd (cc_of (within refl))
  where
    cc_of : false ≡ true → ⊥
    cc_of e = cc
by_longer None false true w got within is = refl
by_longer None false false w got within is = refl

-- a message whose handshake had ended by then has by now
still : (number a b : ℕ) → a ≤ b → nat_le number a ≡ true → nat_le number b ≡ true
still number a b more is = le-leb number b (omega (arith, leb-true number a is, more))

-- a run more
pub keeps_more : (runs : List Run) (run : Run) (past : List Ending) (messages : ℕ) (got : Bool) → Keeps runs past → run.last ≡ min (last_number runs + messages) (2 ^ 64 - 1) → run.was_got ≡ got
    → Keeps (runs ++ run ∷ []) ((messages, got) ∷ past)
keeps_more runs run past messages got keeps last is = record { last = λ few. last_more runs run ∙ ends few; known = known }
  where
    ends : messages_of past + messages < 2 ^ 64 → run.last ≡ messages_of past + messages
    ends few = let before : last_number runs ≡ messages_of past = keeps.last (omega (arith, few)) in omega (arith, few, before, last)

    known : (number : ℕ) → 1 ≤ number → messages_of past + messages < 2 ^ 64 → known_in number (runs ++ run ∷ []) ≡ known_by number ((messages, got) ∷ past)
    known number some few =
        let before = keeps.known number some (omega (arith, few)) in
        known_more number runs run
        ∙ (ap (λ (o : Option Bool). or_last o (nat_le number run.last) run.was_got) before
        ∙ (ap (λ (n : ℕ). or_last (known_by number past) (nat_le number n) run.was_got) (ends few)
        ∙ (ap (λ (g : Bool). or_last (known_by number past) (nat_le number (messages_of past + messages)) g) is
        ∙ by_more (nat_le number (messages_of past)) (nat_le number (messages_of past + messages)) (was_got number past) got (still number (messages_of past) (messages_of past + messages) (omega arith)))))

-- a run goes on
pub keeps_longer : (front : List Run) (run new : Run) (past : List Ending) (messages : ℕ) (got : Bool) → Keeps (front ++ run ∷ []) past → new.last ≡ min (run.last + messages) (2 ^ 64 - 1) → run.was_got ≡ got → new.was_got ≡ got
    → Keeps (front ++ new ∷ []) ((messages, got) ∷ past)
keeps_longer front run new past messages got keeps last was is = record { last = λ few. last_more front new ∙ ends few; known = known }
  where
    ended : messages_of past + messages < 2 ^ 64 → run.last ≡ messages_of past
    ended few = sym (last_more front run) ∙ keeps.last (omega (arith, few))

    ends : messages_of past + messages < 2 ^ 64 → new.last ≡ messages_of past + messages
    ends few = omega (arith, few, ended few, last)

    known : (number : ℕ) → 1 ≤ number → messages_of past + messages < 2 ^ 64 → known_in number (front ++ new ∷ []) ≡ known_by number ((messages, got) ∷ past)
    known number some few =
        let before = keeps.known number some (omega (arith, few)) in
        let so : or_last (known_in number front) (nat_le number (messages_of past)) got ≡ known_by number past =
        ap (λ (g : Bool). or_last (known_in number front) (nat_le number (messages_of past)) g) (sym was)
        ∙ (ap (λ (n : ℕ). or_last (known_in number front) (nat_le number n) run.was_got) (sym (ended few)) ∙ (sym (known_more number front run) ∙ before)) in
        known_more number front new
        ∙ (ap (λ (n : ℕ). or_last (known_in number front) (nat_le number n) new.was_got) (ends few)
        ∙ (ap (λ (g : Bool). or_last (known_in number front) (nat_le number (messages_of past + messages)) g) is
        ∙ by_longer (known_in number front) (nat_le number (messages_of past)) (nat_le number (messages_of past + messages)) (was_got number past) got (still number (messages_of past) (messages_of past + messages) (omega arith)) so))

-- what is found in a run
pub found_in : (number : ℕ) (past : List Ending) (o : Option Run) (run : Run) → o ≡ Some run → option_map (λ (r : Run). r.was_got) o ≡ known_by number past → run.was_got ≡ was_got number past
found_in number past o run here is = by (nat_le number (messages_of past)) (sym (ap (option_map (λ (r : Run). r.was_got)) here) ∙ is)
  where
    by : (b : Bool) → Some run.was_got ≡ (if b then Some (was_got number past) else None) → run.was_got ≡ was_got number past
    by true e = ap (λ (o : Option Bool). unwrap_or o false) e
    by false e = cc

-- nothing is known of one that is in none
pub found_in_none : (number : ℕ) (past : List Ending) (o : Option Run) → o ≡ None → option_map (λ (r : Run). r.was_got) o ≡ known_by number past → false ≡ was_got number past
found_in_none number past o none is = by (nat_le number (messages_of past)) refl (sym (ap (option_map (λ (r : Run). r.was_got)) none) ∙ is)
  where
    unknown : (past : List Ending) → nat_le number (messages_of past) ≡ false → false ≡ was_got number past
    unknown [] out = refl
    unknown ((messages, got) ∷ past) out =
        let before : nat_le number (messages_of past) ≡ false = out_before (nat_le number (messages_of past)) refl in
        sym (ap (λ (b : Bool). if b then was_got number past else (if nat_le number (messages_of past + messages) then got else false)) before ∙ ap (λ (b : Bool). if b then got else false) out)
      where
        out_before : (b : Bool) → nat_le number (messages_of past) ≡ b → nat_le number (messages_of past) ≡ false
        out_before true e = absurd (both (sym (still number (messages_of past) (messages_of past + messages) (omega arith) e) ∙ out))
          where
            both : true ≡ false → ⊥
            both e = cc
        out_before false e = e

    by : (b : Bool) → nat_le number (messages_of past) ≡ b → None ≡ (if b then Some (was_got number past) else None) → false ≡ was_got number past
    by true at e = absurd (never e)
      where
        never : None ≡ Some (was_got number past) → ⊥
        never e = cc
    by false at e = unknown past at

-- a handshake ended on one of the streams
pub one_ended : (streams : List Ended) (old new : Ended) (stream : ℕ) (one : Ending) (ends : Endings) → (1 ≤ stream) × (stream ≤ length streams) → old ≡ get_or streams (stream - 1) old
    → ((past : List Ending) → Keeps old.runs.items past → Keeps new.runs.items (one ∷ past)) → ((place : ℕ) (ended : Ended) → slice_get streams place ≡ Some ended → Keeps ended.runs.items (ends (place + 1)))
    → (place : ℕ) (ended : Ended) → slice_get (set streams (stream - 1) new) place ≡ Some ended → Keeps ended.runs.items (with_end stream one ends (place + 1))
one_ended streams old new stream one ends within at step each place kept has = by (set_cases streams (stream - 1) new place kept has)
  where
    added : (b : Bool) (past : List Ending) → b ≡ true → one ∷ past ≡ (if b then (one ∷ past) else past)
    added true past is = refl
    added false past is = cc

    same : (b : Bool) (past : List Ending) → b ≡ false → past ≡ (if b then (one ∷ past) else past)
    same true past is = cc
    same false past is = refl

    other : (b : Bool) → ((place + 1) == stream) ≡ b → (stream - 1 ≡ place → ⊥) → ((place + 1) == stream) ≡ false
    other true eq apart = absurd (apart (omega (arith, eqb-true (place + 1) stream eq)))
    other false eq apart = eq

    by : ((stream - 1 ≡ place) × (new ≡ kept)) ⊎ ((stream - 1 ≡ place → ⊥) × (slice_get streams place ≡ Some kept)) → Keeps kept.runs.items (with_end stream one ends (place + 1))
    by (inl (here, is)) =
        let number : stream - 1 + 1 ≡ place + 1 = omega (arith, here) in
        let equal : place + 1 ≡ stream = omega (arith, here, within.0) in
        let before : Keeps old.runs.items (ends (stream - 1 + 1)) = each (stream - 1) old (slice_get_read streams (length streams) (stream - 1) old refl (omega (arith, within.0, within.1)) at) in
        let after : Keeps new.runs.items (one ∷ ends (place + 1)) = step (ends (place + 1)) (subst (λ (n : ℕ). Keeps old.runs.items (ends n)) number before) in
        subst (λ (past : List Ending). Keeps kept.runs.items past) (added ((place + 1) == stream) (ends (place + 1)) (eq-eqb (place + 1) stream equal))
        (subst (λ (e : Ended). Keeps e.runs.items (one ∷ ends (place + 1))) is after)
    by (inr (apart, there)) =
        subst (λ (past : List Ending). Keeps kept.runs.items past) (same ((place + 1) == stream) (ends (place + 1)) (other ((place + 1) == stream) refl apart)) (each place kept there)
