-- How far a merge has come.
use Rattle.std.proofs.Common.{◌≡◌, ℕ, ◌+◌, ◌<◌, ◌≤◌, zero, suc, Bool, true, false, List, [], ◌∷◌, ◌++◌, length, take, drop, get_or, reverse, refl, sym, ◌∙◌, ap, subst, inl, inr, ◌⊎◌, arith}
use Rattle.std.specs.Prelude.{◌↔◌, IsTrue}
use Rattle.std.specs.List.{Contains}
use Rattle.std.proofs.lemmas.List.{append-nil, take_more, take-append-drop}
use Rattle.std.proofs.lemmas.List.Elements.{Contains-append_left}
use Rattle.std.proofs.Math.Seq.{drop-cons}
use Rattle.amo_world.specs.declared.event.Event.{Event}
use Rattle.amo_world.specs.History.{IsHonest, DeliversEmitted}
use Rattle.amo_audit.specs.Merge.{Interleaves, MayGo, Prefers, SharesSide}
use Rattle.amo_audit.proofs.Greedy.{AreApart, IsAhead, one_after, shift, took_first, took_second, goes_on, apart_from, honest_events}

pub record Reached (first second : List Event) (i j : ℕ) (past : List Event) : Type 0 where
  pub ahead : IsAhead past [] (take i first) (take j second)
  pub on : (a b behind behind' rest : List Event) → drop i first ≡ a ++ behind → drop j second ≡ b ++ behind' → Prefers past a b rest
      → Prefers [] (take i first ++ a) (take j second ++ b) (reverse past ++ rest)
  pub apart : AreApart first second

pub nothing_taken : (first second : List Event) → (¬ (SharesSide first second)) → Reached first second 0 0 []
nothing_taken first second not = record { ahead = λ n side. refl; on = λ a b behind behind' rest p q pref. pref; apart = apart_from first second not }

-- a list's next event may go only if there is one
pub inside : (past es : List Event) (i : ℕ) → MayGo past (drop i es) → i < length es
inside past [] zero may = absurd may
inside past [] (suc i) may = absurd may
inside past (e ∷ es) zero may = omega arith
inside past (e ∷ es) (suc i) may = omega (arith, inside past es i may)

next : (es : List Event) (i : ℕ) (x : Event) → i < length es → x ≡ get_or es i x → drop i es ≡ x ∷ drop (i + 1) es
next es i x small is =
    let after : suc i ≡ i + 1 = omega arith in
    drop-cons es i x small ∙ ap (λ (y : Event). y ∷ drop (suc i) es) (sym is) ∙ ap (λ n. x ∷ drop n es) after

taken : (es : List Event) (i : ℕ) (x : Event) → i < length es → x ≡ get_or es i x → take (i + 1) es ≡ take i es ++ x ∷ []
taken es i x small is = take_more es i x small ∙ ap (λ (y : Event). take i es ++ y ∷ []) (sym is)

one_further : (es : List Event) (i : ℕ) (x : Event) (a : List Event) → i < length es → x ≡ get_or es i x → take i es ++ x ∷ a ≡ take (i + 1) es ++ a
one_further es i x a small is = one_after (take i es) x a ∙ ap (λ (t : List Event). t ++ a) (sym (taken es i x small is))

-- what may go first may go, whatever is behind it
goes_with : (past a behind : List Event) → MayGo past a → MayGo past (a ++ behind)
goes_with past [] behind may = absurd may
goes_with past (e ∷ a) behind may = may

-- all of both, by what is left of them
pub on_to_the_end : (first second : List Event) (i j : ℕ) (past rest : List Event) → Reached first second i j past → Prefers past (drop i first) (drop j second) rest → Prefers [] first second (reverse past ++ rest)
on_to_the_end first second i j past rest reached pref =
    subst (λ (t : List Event). Prefers [] t second (reverse past ++ rest)) (take-append-drop i first)
    (subst (λ (t : List Event). Prefers [] (take i first ++ drop i first) t (reverse past ++ rest)) (take-append-drop j second)
    (reached.on (drop i first) (drop j second) [] [] rest (sym (append-nil (drop i first))) (sym (append-nil (drop j second))) pref))

stands : (es : List Event) (i : ℕ) (x : Event) → i < length es → x ≡ get_or es i x → Contains es x
stands es i x small is = (i, small, sym is)

in_taken : (es : List Event) (i : ℕ) (y : Event) → Contains (take i es) y → Contains es y
in_taken es i y c = subst (λ (l : List Event). Contains l y) (take-append-drop i es) (Contains-append_left (take i es) (drop i es) y c)

pub first_taken : (first second : List Event) (i j : ℕ) (past : List Event) (x : Event) → i < length first → x ≡ get_or first i x → MayGo past (drop i first) → Reached first second i j past → Reached first second (i + 1) j (x ∷ past)
first_taken first second i j past x small is may reached =
    let more = next first i x small is in record {
      ahead = subst (λ (t : List Event). IsAhead (x ∷ past) [] t (take j second)) (sym (taken first i x small is))
          (took_first past [] (take i first) (take j second) x (λ y c. reached.apart x y (stands first i x small is) (in_taken second j y c)) reached.ahead);
      on = λ a b behind behind' rest p q pref.
          subst (λ (t : List Event). Prefers [] t (take j second ++ b) (reverse (x ∷ past) ++ rest)) (one_further first i x a small is)
          (subst (Prefers [] (take i first ++ x ∷ a) (take j second ++ b)) (sym (shift rest past x))
          (reached.on (x ∷ a) b behind behind' (x ∷ rest) (more ∙ ap (λ (t : List Event). x ∷ t) p) q (inl (a, refl, subst (MayGo past) more may, pref))));
      apart = reached.apart;
    }

pub second_taken : (first second : List Event) (i j : ℕ) (past : List Event) (x : Event) → j < length second → x ≡ get_or second j x → MayGo past (drop j second) → (MayGo past (drop i first) → ⊥)
    → Reached first second i j past → Reached first second i (j + 1) (x ∷ past)
second_taken first second i j past x small is may not reached =
    let more = next second j x small is in record {
      ahead = subst (IsAhead (x ∷ past) [] (take i first)) (sym (taken second j x small is)) (took_second past [] (take i first) (take j second) x reached.ahead);
      on = λ a b behind behind' rest p q pref.
          subst (λ (t : List Event). Prefers [] (take i first ++ a) t (reverse (x ∷ past) ++ rest)) (one_further second j x b small is)
          (subst (Prefers [] (take i first ++ a) (take j second ++ x ∷ b)) (sym (shift rest past x))
          (reached.on a (x ∷ b) behind behind' (x ∷ rest) p (more ∙ ap (λ (t : List Event). x ∷ t) q)
          (inr (b, refl, λ goes. not (subst (MayGo past) (sym p) (goes_with past a behind goes)), subst (MayGo past) more may, pref))));
      apart = reached.apart;
    }

past_end : (es : List Event) (i : ℕ) → length es ≤ i → drop i es ≡ []
past_end [] zero end = refl
past_end [] (suc i) end = refl
past_end (e ∷ es) zero end = absurd (omega arith)
past_end (e ∷ es) (suc i) end = past_end es i (omega arith)

pub all_taken : (first second : List Event) (i j : ℕ) (past : List Event) → length first ≤ i → length second ≤ j → Reached first second i j past → Prefers [] first second (reverse past)
all_taken first second i j past p q reached = subst (Prefers [] first second) (append-nil (reverse past)) (on_to_the_end first second i j past [] reached (past_end first i p, past_end second j q))

not_end : (es : List Event) (i : ℕ) → drop i es ≡ [] → length es ≤ i
not_end [] i e = omega arith
not_end (x ∷ es) zero e = absurd (no e)
  where
    no : x ∷ es ≡ [] → ⊥
    no e = cc
not_end (x ∷ es) (suc i) e = omega (arith, not_end es i e)

pub none_honest : (first second : List Event) (i j : ℕ) (past : List Event) → ((length first ≤ i) → (length second ≤ j) → ⊥) → (MayGo past (drop i first) → ⊥) → (MayGo past (drop j second) → ⊥)
    → Reached first second i j past → (merged : List Event) → Interleaves first second merged → IsHonest (reverse merged) → ⊥
none_honest first second i j past some_left not_first not_second reached merged inter honest =
    cases (goes_on past [] (take i first) (take j second) (drop i first) (drop j second) merged
    (rw (take-append-drop i first, take-append-drop j second) reached.apart) reached.ahead
    (rw (take-append-drop i first, take-append-drop j second) inter)
    (honest_events [] merged (subst IsHonest (sym (append-nil (reverse merged))) honest)).0)
  where
    cases : MayGo past (drop i first) ⊎ MayGo past (drop j second) ⊎ ((drop i first ≡ []) × (drop j second ≡ [])) → ⊥
    cases (inl may) = not_first may
    cases (inr (inl may)) = not_second may
    cases (inr (inr (p, q))) = some_left (not_end first i p) (not_end second j q)

pub going : (past es : List Event) (i : ℕ) (e : Event) (r : Bool) → i < length es → e ≡ get_or es i e → (IsTrue r ↔ DeliversEmitted past e) → IsTrue r ↔ MayGo past (drop i es)
going past es i e r small is tells = subst (λ (t : List Event). IsTrue r ↔ MayGo past t) (sym (next es i e small is)) tells

pub untrue : (b : Bool) → b ≡ false → IsTrue b → ⊥
untrue true e is = cc
untrue false e is = cc
