-- The greatest beginnings of two lists that merge: what follows goes on from them, and no others go further.
use Rattle.std.proofs.Common.{◌≡◌, ◌+◌, length, List, [], ◌∷◌, ◌++◌, reverse, refl, sym, ◌∙◌, ap, subst, inl, inr, ◌⊎◌, append_assoc, arith}
use Rattle.std.specs.List.{Contains}
use Rattle.std.proofs.lemmas.List.{append-nil}
use Rattle.std.proofs.lemmas.List.Elements.{Contains-append_left}
use Rattle.amo_world.specs.declared.event.Event.{Event}
use Rattle.amo_world.specs.History.{IsHonest}
use Rattle.amo_world.proofs.Lists.{contains_first, contains_other}
use Rattle.amo_audit.specs.Merge.{Interleaves, MayGo, SharesSide}
use Rattle.amo_audit.specs.Reach.{AreBeginnings}
use Rattle.amo_audit.proofs.Sight.{Sight, sight, run, sight_more, in_either_order}
use Rattle.amo_audit.proofs.Greedy.{AreApart, AreHonest, IsAhead, apart_from, complete, goes, ahead_first, ahead_second, honest_events, honest_history, preferred_interleaves, preferred_is_honest, same_head, same_tail, shift}

-- an interleaving leaves all sides as both lists do
first_back : (now was first second : List Event) (e : Event) → IsAhead now (e ∷ was) first second → IsAhead now was (e ∷ first) second
first_back now was first second e ahead n side = ahead n side ∙ ap (λ (v : Sight). run n side second (run n side first v)) (sight_more n side was e)

second_back : (now was first second : List Event) (e : Event) → ((x : Event) → Contains first x → x.stream ≡ e.stream → x.side ≡ e.side → ⊥) → IsAhead now (e ∷ was) first second → IsAhead now was first (e ∷ second)
second_back now was first second e apart ahead n side =
    ahead n side
    ∙ ap (λ (v : Sight). run n side second (run n side first v)) (sight_more n side was e)
    ∙ ap (run n side second) (in_either_order n side e first (sight n side was) apart)

interleaved : (was first second merged : List Event) → AreApart first second → Interleaves first second merged → IsAhead (reverse merged ++ was) was first second
interleaved was first second [] apart both = rw (both.0, both.1) (λ n side. refl)
interleaved was first second (e ∷ merged) apart (inl (rest, is, more)) =
    subst (λ (t : List Event). IsAhead (reverse (e ∷ merged) ++ was) was t second) (sym is)
    (first_back (reverse (e ∷ merged) ++ was) was rest second e
    (subst (λ (t : List Event). IsAhead t (e ∷ was) rest second) (sym (shift was merged e))
    (interleaved (e ∷ was) rest second merged (λ x y c. apart x y (subst (λ (t : List Event). Contains t x) (sym is) (contains_other e rest x c))) more)))
interleaved was first second (e ∷ merged) apart (inr (rest, is, more)) =
    subst (λ (t : List Event). IsAhead (reverse (e ∷ merged) ++ was) was first t) (sym is)
    (second_back (reverse (e ∷ merged) ++ was) was first rest e (λ x c. apart x e c (subst (λ (t : List Event). Contains t e) (sym is) (contains_first e rest)))
    (subst (λ (t : List Event). IsAhead t (e ∷ was) first rest) (sym (shift was merged e))
    (interleaved (e ∷ was) first rest merged (λ x y c there. apart x y c (subst (λ (t : List Event). Contains t y) (sym is) (contains_other e rest y there))) more)))

-- interleavings one behind the other
joined : (first second merged xs ys rest : List Event) → Interleaves first second merged → Interleaves xs ys rest → Interleaves (first ++ xs) (second ++ ys) (merged ++ rest)
joined first second [] xs ys rest both inter = rw (both.0, both.1) inter
joined first second (e ∷ merged) xs ys rest (inl (others, is, more)) inter =
    inl (others ++ xs, ap (λ (t : List Event). t ++ xs) is, joined others second merged xs ys rest more inter)
joined first second (e ∷ merged) xs ys rest (inr (others, is, more)) inter =
    inr (others ++ ys, ap (λ (t : List Event). t ++ ys) is, joined first others merged xs ys rest more inter)

honest_joined : (past merged rest : List Event) → AreHonest past merged → AreHonest (reverse merged ++ past) rest → AreHonest past (merged ++ rest)
honest_joined past [] rest honest more = more
honest_joined past (e ∷ merged) rest (may, honest) more = (may, honest_joined (e ∷ past) merged rest honest (subst (λ (t : List Event). AreHonest t rest) (shift past merged e) more))

begins_apart : (first xs second ys : List Event) → AreApart (first ++ xs) (second ++ ys) → AreApart first second
begins_apart first xs second ys apart x y c there = apart x y (Contains-append_left first xs x c) (Contains-append_left second ys y there)

pub go_on : (x y first second merged more more' other : List Event) → AreBeginnings x y first second merged → (¬ (SharesSide (x ++ more) (y ++ more')))
    → Interleaves (x ++ more) (y ++ more') other → IsHonest (reverse other)
    → (rest : List Event) × Interleaves (x ++ more) (y ++ more') (merged ++ rest) × IsHonest (reverse (merged ++ rest))
go_on x y first second merged more more' other are not inter honest =
    let xs = are.behind_first ++ more in
    let ys = are.behind_second ++ more' in
    let p : x ++ more ≡ first ++ xs = ap (λ (t : List Event). t ++ more) are.first_of ∙ append_assoc first are.behind_first more in
    let q : y ++ more' ≡ second ++ ys = ap (λ (t : List Event). t ++ more') are.second_of ∙ append_assoc second are.behind_second more' in
    let apart : AreApart (first ++ xs) (second ++ ys) = rw (sym p, sym q) (apart_from (x ++ more) (y ++ more') not) in
    let all = preferred_interleaves [] first second merged are.preferred in
    let here : IsAhead (reverse merged) [] first second =
    subst (λ (t : List Event). IsAhead t [] first second) (append-nil (reverse merged)) (interleaved [] first second merged (begins_apart first xs second ys apart) all) in
    let (rest, pref) = complete (length xs + length ys) other (honest_events [] other (subst IsHonest (sym (append-nil (reverse other))) honest)).0
    (reverse merged) first second xs ys (omega arith) apart here (rw (sym p, sym q) inter) in
    let whole = joined first second merged xs ys rest all (preferred_interleaves (reverse merged) xs ys rest pref) in
    let sound = honest_joined [] merged rest (preferred_is_honest [] first second merged are.preferred)
    (subst (λ (t : List Event). AreHonest t rest) (sym (append-nil (reverse merged))) (preferred_is_honest (reverse merged) xs ys rest pref)) in
    (rest, subst (λ (t : List Event). Interleaves t (y ++ more') (merged ++ rest)) (sym p) (subst (λ (t : List Event). Interleaves (first ++ xs) t (merged ++ rest)) (sym q) whole), subst IsHonest (append-nil (reverse (merged ++ rest))) (honest_history [] (merged ++ rest) sound tt))

-- how far one list goes beyond another that agrees with it
abbrev Agrees : List Event → List Event → Type 0
Agrees [] a = Unit {0}
Agrees (d ∷ first) [] = Unit {0}
Agrees (d ∷ first) (e ∷ a) = (d ≡ e) × Agrees first a

abbrev beyond : List Event → List Event → List Event
beyond [] a = a
beyond (d ∷ first) [] = []
beyond (d ∷ first) (e ∷ a) = beyond first a

agree : (first behind a behind' : List Event) → first ++ behind ≡ a ++ behind' → Agrees first a
agree [] behind a behind' is = tt
agree (d ∷ first) behind [] behind' is = tt
agree (d ∷ first) behind (e ∷ a) behind' is = (same_head d e (first ++ behind) (a ++ behind') is, agree first behind a behind' (same_tail d e (first ++ behind) (a ++ behind') is))

within : (first a : List Event) → Agrees first a → beyond first a ≡ [] → (more : List Event) × (first ≡ a ++ more)
within [] a agrees none = ([], sym none ∙ sym (append-nil a))
within (d ∷ first) [] agrees none = (d ∷ first, refl)
within (d ∷ first) (e ∷ a) agrees none =
    let (more, is) = within first a agrees.1 none in
    (more, ap (λ (x : Event). x ∷ first) agrees.0 ∙ ap (λ (t : List Event). e ∷ t) is)

-- what lies beyond begins what is behind
beyond_begins : (first behind a behind' : List Event) → first ++ behind ≡ a ++ behind' → (past : List Event) → MayGo past (beyond first a) → MayGo past behind
beyond_begins [] behind [] behind' is past may = absurd may
beyond_begins [] behind (e ∷ a) behind' is past may = subst (MayGo past) (sym is) may
beyond_begins (d ∷ first) behind [] behind' is past may = absurd may
beyond_begins (d ∷ first) behind (e ∷ a) behind' is past may = beyond_begins first behind a behind' (same_tail d e (first ++ behind) (a ++ behind') is) past may

-- the next event beyond what was taken may go, or there is none
next_beyond : (now was first second a b merged : List Event) → AreApart a b → ((x y : Event) → Contains first x → Contains b y → x.stream ≡ y.stream → x.side ≡ y.side → ⊥)
    → Agrees first a → Agrees second b → IsAhead now was first second → Interleaves a b merged → AreHonest was merged
    → MayGo now (beyond first a) ⊎ MayGo now (beyond second b) ⊎ ((beyond first a ≡ []) × (beyond second b ≡ []))
next_beyond now was first second a b [] apart apart' agrees agrees' ahead (p, q) honest = inr (inr (nothing first a p, nothing second b q))
  where
    nothing : (first a : List Event) → a ≡ [] → beyond first a ≡ []
    nothing [] a is = is
    nothing (d ∷ first) [] is = refl
    nothing (d ∷ first) (e ∷ a) is = cc
next_beyond now was [] second a b (e ∷ merged) apart apart' agrees agrees' ahead (inl (rest, is, inter)) (may, honest) = inl (subst (MayGo now) (sym is) (goes now was [] second e ahead may))
next_beyond now was (d ∷ first) second [] b (e ∷ merged) apart apart' agrees agrees' ahead (inl (rest, is, inter)) (may, honest) = cc
next_beyond now was (d ∷ first) second (c ∷ a) b (e ∷ merged) apart apart' agrees agrees' ahead (inl (rest, is, inter)) (may, honest) =
    let same = same_head c e a rest is in
    next_beyond now (e ∷ was) first second a b merged
    (λ x y t. apart x y (contains_other c a x t))
    (λ x y t. apart' x y (contains_other d first x t))
    agrees.1 agrees'
    (ahead_first now was first second e (subst (λ (x : Event). IsAhead now was (x ∷ first) second) (agrees.0 ∙ same) ahead))
    (subst (λ (r : List Event). Interleaves r b merged) (sym (same_tail c e a rest is)) inter)
    honest
next_beyond now was first [] a b (e ∷ merged) apart apart' agrees agrees' ahead (inr (rest, is, inter)) (may, honest) = inr (inl (subst (MayGo now) (sym is) (goes now was first [] e ahead may)))
next_beyond now was first (d ∷ second) a [] (e ∷ merged) apart apart' agrees agrees' ahead (inr (rest, is, inter)) (may, honest) = cc
next_beyond now was first (d ∷ second) a (c ∷ b) (e ∷ merged) apart apart' agrees agrees' ahead (inr (rest, is, inter)) (may, honest) =
    let same = same_head c e b rest is in
    next_beyond now (e ∷ was) first second a b merged
    (λ x y t there. apart x y t (contains_other c b y there))
    (λ x y t there. apart' x y t (contains_other c b y there))
    agrees agrees'.1
    (ahead_second now was first second e (λ x t. apart' x e t (subst (Contains (c ∷ b)) same (contains_first c b))) (subst (λ (x : Event). IsAhead now was first (x ∷ second)) (agrees'.0 ∙ same) ahead))
    (subst (λ (r : List Event). Interleaves a r merged) (sym (same_tail c e b rest is)) inter)
    honest

pub are_greatest : (x y first second merged a b behind behind' other : List Event) → AreBeginnings x y first second merged → (¬ (SharesSide x y))
    → x ≡ a ++ behind → y ≡ b ++ behind' → Interleaves a b other → IsHonest (reverse other)
    → ((more : List Event) × (first ≡ a ++ more)) × ((more : List Event) × (second ≡ b ++ more))
are_greatest x y first second merged a b behind behind' other are not p q inter honest =
    cases (next_beyond (reverse merged) [] first second a b other
    (begins_apart a behind b behind' (rw (sym p, sym q) apart))
    (λ d e t there. apart d e (of_x d t) (of_y e there))
    (agree first are.behind_first a behind (sym are.first_of ∙ p)) (agree second are.behind_second b behind' (sym are.second_of ∙ q)) here inter
    (honest_events [] other (subst IsHonest (sym (append-nil (reverse other))) honest)).0)
  where
    apart : AreApart x y
    apart = apart_from x y not

    of_x : (d : Event) → Contains first d → Contains x d
    of_x d t = subst (λ (l : List Event). Contains l d) (sym are.first_of) (Contains-append_left first are.behind_first d t)

    of_y : (e : Event) → Contains b e → Contains y e
    of_y e t = subst (λ (l : List Event). Contains l e) (sym q) (Contains-append_left b behind' e t)

    here : IsAhead (reverse merged) [] first second
    here = subst (λ (t : List Event). IsAhead t [] first second) (append-nil (reverse merged))
        (interleaved [] first second merged (begins_apart first are.behind_first second are.behind_second (rw (sym are.first_of, sym are.second_of) apart))
        (preferred_interleaves [] first second merged are.preferred))

    cases : MayGo (reverse merged) (beyond first a) ⊎ MayGo (reverse merged) (beyond second b) ⊎ ((beyond first a ≡ []) × (beyond second b ≡ []))
        → ((more : List Event) × (first ≡ a ++ more)) × ((more : List Event) × (second ≡ b ++ more))
    cases (inl may) = absurd (are.first_waits (beyond_begins first are.behind_first a behind (sym are.first_of ∙ p) (reverse merged) may))
    cases (inr (inl may)) = absurd (are.second_waits (beyond_begins second are.behind_second b behind' (sym are.second_of ∙ q) (reverse merged) may))
    cases (inr (inr (none, none'))) = (
      within first a (agree first are.behind_first a behind (sym are.first_of ∙ p)) none,
      within second b (agree second are.behind_second b behind' (sym are.second_of ∙ q)) none',
    )
