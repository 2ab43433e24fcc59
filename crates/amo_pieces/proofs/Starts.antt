-- Where pieces start, and where a line stands by that.
use Rattle.std.proofs.Common.{◌≡◌, ◌⊎◌, ◌↔◌, Option, Some, None, IfNone, inl, inr, ℕ, ◌+◌, ◌-◌, ◌<◌, ◌≤◌, List, [], ◌∷◌, ◌++◌, length, take, get_or, refl, sym, ◌∙◌, ap, subst, arith, length-append, IsTrue}
use Rattle.std.proofs.Math.Seq.{take-append_seam}
use Rattle.amo_pieces.specs.declared.place.Place.{Place}
use Rattle.amo_pieces.specs.declared.start.Start.{Start}
use Rattle.amo_pieces.specs.Journal.{IsWhole}
use Rattle.amo_pieces.specs.Text.{IsTextOf}
use Rattle.amo_pieces.specs.Kept.{AreStarts, TellsOf}
use Rattle.amo_pieces.specs.Places.{IsAt, BeginsBehind, ends_in}

get_last : (xs : List Start) (a d : Start) → get_or (xs ++ a ∷ []) (length xs) d ≡ a
get_last [] a d = refl
get_last (x ∷ xs) a d = get_last xs a d

-- the last of some starts, and those before it
last_is : (starts before : List Start) (a b : Start) → starts ≡ before ++ a ∷ [] → b ≡ get_or starts (length starts - 1) b → b ≡ a
last_is starts before a b e is =
    let long = ap length e ∙ length-append before (a ∷ []) in
    let n : length starts - 1 ≡ length before = omega (arith, long) in
    is ∙ ap (λ k. get_or starts k b) n ∙ ap (λ (t : List Start). get_or t (length before) b) e ∙ get_last before a b

front_is : (starts before : List Start) (a : Start) → starts ≡ before ++ a ∷ [] → take (length starts - 1) starts ≡ before
front_is starts before a e =
    let long = ap length e ∙ length-append before (a ∷ []) in
    let n : length starts - 1 ≡ length before = omega (arith, long) in
    ap (λ k. take k starts) n ∙ ap (λ (t : List Start). take (length before) t) e ∙ take-append_seam before (a ∷ [])

-- each piece has a start
each_starts : (pieces : List (List ℕ)) (starts : List Start) → AreStarts starts pieces → length starts ≡ length pieces
each_starts [] starts are = ap length are
each_starts (piece ∷ earlier) starts (front, text, before, start, told, joins, goes_on, ends, are, e) =
    let fewer = each_starts earlier before are in
    let long = ap length e ∙ length-append before (start ∷ []) in
    omega (arith, fewer, long)

pub no_pieces : (line : ℕ) (starts : List Start) → length starts < 1 → (pieces : List (List ℕ)) → AreStarts starts pieces → (line ≡ 0) ⊎ (pieces ≡ [])
no_pieces line starts few [] are = inr refl
no_pieces line starts few (piece ∷ earlier) are = absurd (let each = each_starts (piece ∷ earlier) starts are in let no : ⊥ = omega (arith, each, few) in no)

-- here begins the line
pub begins_here : (line : ℕ) (starts : List Start) (last : Start) (place : Place) → last ≡ get_or starts (length starts - 1) last → 1 ≤ length starts → IsTrue last.goes_on → last.ends < line
    → place.piece ≡ length (take (length starts - 1) starts) → place.line ≡ line - last.ends + last.left_out → (pieces : List (List ℕ)) → AreStarts starts pieces → IsAt pieces line place
begins_here line starts last place is some on behind piece_is line_is [] are = absurd (let none = ap length are in let no : ⊥ = omega (arith, none, some) in no)
begins_here line starts last place is some on behind piece_is line_is (piece ∷ earlier) (front, text, before, start, told, joins, goes_on, ends, are, e) =
    let same = last_is starts before start last e is in
    let index = piece_is ∙ ap length (front_is starts before start e) ∙ each_starts earlier before are in
    let from : last.ends ≡ start.ends = ap (λ (s : Start). s.ends) same in
    let out : last.left_out ≡ start.left_out = ap (λ (s : Start). s.left_out) same in
    (front, text, start.left_out, told, joins, inl ((goes_on.0 (subst (λ (s : Start). IsTrue s.goes_on) same on), omega (arith, from, ends, behind)), index, omega (arith, line_is, from, ends, out)))

not_behind : (line : ℕ) (front : List ℕ) (last start : Start) → last ≡ start → (IsTrue start.goes_on ↔ IsWhole front) → start.ends ≡ ends_in front → ¬ (IsTrue last.goes_on × (last.ends < line)) → ¬ (BeginsBehind front line)
not_behind line front last start same goes_on ends not (whole, less) =
    let from : last.ends ≡ start.ends = ap (λ (s : Start). s.ends) same in
    not (subst (λ (s : Start). IsTrue s.goes_on) (sym same) (goes_on.1 whole), omega (arith, from, ends, less))

-- it begins before
begins_before : (line : ℕ) (starts : List Start) (last : Start) (place : Place) → last ≡ get_or starts (length starts - 1) last → 1 ≤ length starts → ¬ (IsTrue last.goes_on × (last.ends < line))
    → ((pieces : List (List ℕ)) → AreStarts (take (length starts - 1) starts) pieces → IsAt pieces line place) → (pieces : List (List ℕ)) → AreStarts starts pieces → IsAt pieces line place
begins_before line starts last place is some not again [] are = absurd (let none = ap length are in let no : ⊥ = omega (arith, none, some) in no)
begins_before line starts last place is some not again (piece ∷ earlier) (front, text, before, start, told, joins, goes_on, ends, are, e) =
    let same = last_is starts before start last e is in
    (front, text, start.left_out, told, joins, inr (not_behind line front last start same goes_on ends not, again earlier (subst (λ (s : List Start). AreStarts s earlier) (sym (front_is starts before start e)) are)))

-- a line that does not begin behind nothing is none
first_line : (line : ℕ) → ¬ (0 < line) → line ≡ 0
first_line line not = omega (arith, not)

-- or nowhere
none_left : (line : ℕ) (front : List ℕ) (last start : Start) (earlier : List (List ℕ)) → ¬ (BeginsBehind front line) → IsTextOf earlier front → (line ≡ 0) ⊎ (earlier ≡ []) → line ≡ 0
none_left line front last start earlier not told (inl zero) = zero
none_left line front last start [] not told (inr none) = first_line line (λ some. not (inl told, rw told some))
none_left line front last start (piece ∷ earlier) not told (inr none) = cc

begins_nowhere : (line : ℕ) (starts : List Start) (last : Start) → last ≡ get_or starts (length starts - 1) last → 1 ≤ length starts → ¬ (IsTrue last.goes_on × (last.ends < line))
    → ((pieces : List (List ℕ)) → AreStarts (take (length starts - 1) starts) pieces → (line ≡ 0) ⊎ (pieces ≡ [])) → (pieces : List (List ℕ)) → AreStarts starts pieces → (line ≡ 0) ⊎ (pieces ≡ [])
begins_nowhere line starts last is some not again [] are = inr refl
begins_nowhere line starts last is some not again (piece ∷ earlier) (front, text, before, start, told, joins, goes_on, ends, are, e) =
    let same = last_is starts before start last e is in
    let left = again earlier (subst (λ (s : List Start). AreStarts s earlier) (sym (front_is starts before start e)) are) in
    inl (none_left line front last start earlier (not_behind line front last start same goes_on ends not) told left)

-- all of them tell of the line, and all but the last where it does not begin behind that
pub tells_of_all : (line : ℕ) (starts : List Start) → TellsOf line starts starts
tells_of_all line starts = record { found = λ place same. same; none = λ same. same }

pub tells_of_fewer : (line : ℕ) (starts first : List Start) (last : Start) → last ≡ get_or first (length first - 1) last → 1 ≤ length first → ¬ (IsTrue last.goes_on × (last.ends < line))
    → TellsOf line starts first → TellsOf line starts (take (length first - 1) first)
tells_of_fewer line starts first last is some not tells = record {
  found = λ place again. tells.found place (begins_before line first last place is some not again);
  none = λ again. tells.none (begins_nowhere line first last is some not again);
}

pub none_weaker : {X : Type 0} (o : Option X) (P Q : Type 0) → (P → Q) → IfNone o P → IfNone o Q
none_weaker None P Q f h = f h
none_weaker (Some x) P Q f h = tt
