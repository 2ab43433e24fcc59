-- Where a merge stops, since neither next event may go.
use Rattle.std.proofs.Common.{◌≡◌, ℕ, ◌+◌, ◌<◌, zero, suc, Bool, true, false, Option, None, Some, List, [], ◌∷◌, ◌++◌, length, take, drop, reverse, refl, sym, ◌∙◌, ap, subst, inl, inr, ◌⊎◌, append_assoc, arith}
use Rattle.std.specs.Prelude.{is_some}
use Rattle.std.proofs.lemmas.List.{append-nil, take-append-drop, reverse-reverse}
use Rattle.amo_world.specs.declared.event.Event.{Event}
use Rattle.amo_world.specs.History.{IsHonest}
use Rattle.amo_audit.specs.declared.coming.Source.{Source}
use Rattle.amo_audit.specs.declared.reach.Reach.{Reach}
use Rattle.amo_audit.specs.declared.reach.Reach.TheVariants as how_far
use Rattle.amo_audit.specs.Coming.{AreComing, NextMayGo}
use Rattle.amo_audit.specs.Merge.{MayGo, Prefers}
use Rattle.amo_audit.specs.Merging.{Begins, Ends, OfSources, stopped_at}
use Rattle.amo_audit.specs.Reach.{AreBeginnings, Reaches, StaysStuck}
use Rattle.amo_audit.proofs.Greedy.{apart_from, goes_on, honest_events}
use Rattle.amo_audit.proofs.Steps.{Reached}
use Rattle.amo_audit.proofs.Together.{Going, apart_of, is_none, next_may_go, none_left, none_next, stuck}

-- whether a next event may go depends on it alone
front_goes : (past es more : List Event) → (es ≡ [] → ⊥) → MayGo past (es ++ more) → MayGo past es
front_goes past [] more some may = absurd (some refl)
front_goes past (e ∷ es) more some may = may

front_of_nothing : (es more : List Event) → es ++ more ≡ [] → es ≡ []
front_of_nothing [] more is = refl
front_of_nothing (e ∷ es) more is = cc

more_behind : (es more : List Event) (i : ℕ) → take i es ++ (drop i es ++ more) ≡ es ++ more
more_behind es more i = sym (append_assoc (take i es) (drop i es) more) ∙ ap (λ (t : List Event). t ++ more) (take-append-drop i es)

-- where each has a next event, and neither may go, nothing that follows helps
stays_stuck : (first second : List Event) (i j : ℕ) (past : List Event) → Reached first second i j past → (drop i first ≡ [] → ⊥) → (drop j second ≡ [] → ⊥)
    → (MayGo past (drop i first) → ⊥) → (MayGo past (drop j second) → ⊥) → StaysStuck first second
stays_stuck first second i j past reached some some' not not' more more' apart merged inter honest =
    cases (goes_on past [] (take i first) (take j second) (drop i first ++ more) (drop j second ++ more') merged
    (rw (more_behind first more i, more_behind second more' j) (apart_from (first ++ more) (second ++ more') apart))
    reached.ahead
    (rw (more_behind first more i, more_behind second more' j) inter)
    (honest_events [] merged (subst IsHonest (sym (append-nil (reverse merged))) honest)).0)
  where
    cases : MayGo past (drop i first ++ more) ⊎ MayGo past (drop j second ++ more') ⊎ ((drop i first ++ more ≡ []) × (drop j second ++ more' ≡ [])) → ⊥
    cases (inl may) = not (front_goes past (drop i first) more some may)
    cases (inr (inl may)) = not' (front_goes past (drop j second) more' some' may)
    cases (inr (inr (p, q))) = some (front_of_nothing (drop i first) more p)

-- the greatest beginnings are what was taken
are_beginnings : (x y : List Event) (i j : ℕ) (past : List Event) → Reached x y i j past → (MayGo past (drop i x) → ⊥) → (MayGo past (drop j y) → ⊥)
    → AreBeginnings x y (take i x) (take j y) (reverse past)
are_beginnings x y i j past reached not not' = record {
  behind_first = drop i x;
  behind_second = drop j y;
  first_of = sym (take-append-drop i x);
  second_of = sym (take-append-drop j y);
  preferred = subst (Prefers [] (take i x) (take j y)) (append-nil (reverse past))
      (subst (λ (t : List Event). Prefers [] t (take j y) (reverse past ++ [])) (append-nil (take i x))
      (subst (λ (t : List Event). Prefers [] (take i x ++ []) t (reverse past ++ [])) (append-nil (take j y))
      (reached.on [] [] (drop i x) (drop j y) [] refl refl (refl, refl))));
  first_waits = λ may. not (subst (λ (t : List Event). MayGo t (drop i x)) (reverse-reverse past) may);
  second_waits = λ may. not' (subst (λ (t : List Event). MayGo t (drop j y)) (reverse-reverse past) may);
}

-- how long what was taken is
some_left : (es : List Event) (i : ℕ) → (drop i es ≡ [] → ⊥) → i < length es
some_left [] zero some = absurd (some refl)
some_left [] (suc i) some = absurd (some refl)
some_left (e ∷ es) zero some = omega arith
some_left (e ∷ es) (suc i) some = omega (arith, some_left es i some)

taken_long : (es : List Event) (i : ℕ) → i < length es → length (take i es) ≡ i
taken_long [] i small = absurd (omega (arith, small))
taken_long (e ∷ es) zero small = refl
taken_long (e ∷ es) (suc i) small = omega (arith, taken_long es i (omega (arith, small)))

all_of : (es : List Event) (i : ℕ) → drop i es ≡ [] → take i es ≡ es
all_of es i is = sym (append-nil (take i es)) ∙ ap (λ (t : List Event). take i es ++ t) (sym is) ∙ take-append-drop i es

none_there : (es : List Event) (next : Option Event) (rest : Source) → AreComing es next rest → next ≡ None → es ≡ []
none_there es next rest coming none = none_left es rest (subst (λ (n : Option Event). AreComing es n rest) none coming)

some_next : (next : Option Event) (b : Bool) → b ≡ is_some next → b ≡ true → next ≡ None → ⊥
some_next None b is t none = cc
some_next (Some e) b is t none = cc

module _ {S : Type 0} (HasTaken : S → List Event → Type 0) (MayEnd : Type 0) (first second : Source) (site : S) (past : List Event) (left : Option Event) (left_rest : Source) (right : Option Event) (right_rest : Source)
    (going : Going first second past left left_rest right right_rest) (held : HasTaken site past) (not : NextMayGo past left → ⊥) (not' : NextMayGo past right → ⊥) where
  left_waits : MayGo past (drop going.i going.x) → ⊥
  left_waits may = not ((next_may_go past (drop going.i going.x) left left_rest going.left_is).1 may)

  right_waits : MayGo past (drop going.j going.y) → ⊥
  right_waits may = not' ((next_may_go past (drop going.j going.y) right right_rest going.right_is).1 may)

  begins : (reach : Reach) → (left ≡ None → right ≡ None → ⊥) → Reaches reach going.x going.y (take going.i going.x) (take going.j going.y) → OfSources first second (Begins HasTaken site reach)
  begins reach some reaches = (
    going.x,
    going.y,
    going.x_is,
    going.y_is,
    record {
      cannot = stuck first second past left left_rest right right_rest going some not not';
      first = take going.i going.x;
      second = take going.j going.y;
      merged = reverse past;
      beginnings = are_beginnings going.x going.y going.i going.j past going.reached left_waits right_waits;
      reaches = reaches;
      taken = subst (HasTaken site) (sym (reverse-reverse past)) held;
    },
  )

  left_there : (left ≡ None → ⊥) → drop going.i going.x ≡ [] → ⊥
  left_there some is = some (none_next (drop going.i going.x) left left_rest going.left_is is)

  right_there : (right ≡ None → ⊥) → drop going.j going.y ≡ [] → ⊥
  right_there some is = some (none_next (drop going.j going.y) right right_rest going.right_is is)

  -- the line of the next event of each
  first_left_out : (i : ℕ) → (left ≡ None → ⊥) → i ≡ going.i → (i + 1 ≡ length (take going.i going.x) + 1) × (length (take going.i going.x) < length going.x)
  first_left_out i some e =
      let small = some_left going.x going.i (left_there some) in
      let long = taken_long going.x going.i small in
      (omega (arith, e, long), omega (arith, small, long))

  second_left_out : (j : ℕ) → (right ≡ None → ⊥) → j ≡ going.j → (j + 1 ≡ length (take going.j going.y) + 1) × (length (take going.j going.y) < length going.y)
  second_left_out j some f =
      let small = some_left going.y going.j (right_there some) in
      let long = taken_long going.y going.j small in
      (omega (arith, f, long), omega (arith, small, long))

  -- how the merge ends
  pub ends : (has has' : Bool) (i j : ℕ) → has ≡ is_some left → has' ≡ is_some right → (left ≡ None → right ≡ None → ⊥) → i ≡ going.i → j ≡ going.j
      → Ends HasTaken MayEnd first second (stopped_at site has has' i j)
  ends true true i j p q some e f = (
    going.x,
    going.y,
    going.x_is,
    going.y_is,
    (
      (
        stuck first second past left left_rest right right_rest going some not not',
        stays_stuck going.x going.y going.i going.j past going.reached (left_there (some_next left true p refl)) (right_there (some_next right true q refl)) left_waits right_waits,
      ),
      record {
        apart = apart_of going.x going.y going.i going.j past going.reached;
        first = take going.i going.x;
        second = take going.j going.y;
        merged = reverse past;
        beginnings = are_beginnings going.x going.y going.i going.j past going.reached left_waits right_waits;
        first_stops = first_left_out i (some_next left true p refl) e;
        second_stops = second_left_out j (some_next right true q refl) f;
      },
    ),
  )
  ends true false i j p q some e f =
      begins (how_far.First (i + 1)) some (
        all_of going.y going.j (none_there (drop going.j going.y) right right_rest going.right_is (is_none right false q refl)),
        (first_left_out i (some_next left true p refl) e).0,
        (first_left_out i (some_next left true p refl) e).1,
      )
  ends false has' i j p q some e f =
      let none = is_none left false p refl in
      begins (how_far.Second (j + 1)) some (
        all_of going.x going.i (none_there (drop going.i going.x) left left_rest going.left_is none),
        (second_left_out j (some none) f).0,
        (second_left_out j (some none) f).1,
      )
