-- The events of two sources, merged while they are read.
use Rattle.std.proofs.Common.{◌≡◌, ◌≢◌, ℕ, ◌+◌, ◌<◌, ◌≤◌, zero, suc, Bool, true, false, Option, None, Some, List, [], ◌∷◌, ◌++◌, length, drop, get_or, reverse, refl, sym, ◌∙◌, ap, subst, arith}
use Rattle.std.specs.Prelude.{◌↔◌, is_some}
use Rattle.std.proofs.lemmas.List.{append-nil}
use Rattle.amo_text.proofs.Lines.{no_line, one_line}
use Rattle.amo_world.specs.declared.event.Event.{Event}
use Rattle.amo_world.specs.History.{DeliversEmitted}
use Rattle.amo_journal.specs.declared.numbered.Numbered.{Numbered}
use Rattle.amo_audit.specs.declared.coming.Source.{Source}
use Rattle.amo_audit.specs.declared.coming.Source.TheVariants.{Journal, Events}
use Rattle.amo_journal.specs.declared.lines.Lines.{Lines}
use Rattle.amo_journal.specs.Journal.{InRange, fields_of, line_text, numbered}
use Rattle.amo_journal.specs.Lines.{AreLines}
use Rattle.amo_audit.specs.Coming.{AreComing, Has, IsWhole, NextMayGo, left_of, size_of}
use Rattle.amo_audit.specs.Judgement.{AreApart, CannotMerge}
use Rattle.amo_audit.specs.Merge.{IsPreferred, MayGo, Prefers}
use Rattle.amo_audit.specs.Merging.{OfSources}
use Rattle.amo_journal.proofs.Fields.{IsLine-fields_of}
use Rattle.amo_audit.proofs.Steps.{Reached, nothing_taken, first_taken, second_taken, none_honest, on_to_the_end}
use Rattle.amo_journal.proofs.Unambiguous.{fields_of-injective}

-- the event of the line in front comes first
pub comes : (lines more : Lines) (n : ℕ) (events : List Event) (line : Numbered) → AreLines (numbered n events) lines → InRange lines.version line → lines.text.now ≡ line_text line ++ more.text.now → more.version ≡ lines.version
    → AreComing events (Some line.event) (Journal more)
comes lines more n [] line spelt known here same_version = absurd (no_line [] (fields_of line) more.text.now tt (sym spelt.1 ∙ here))
comes lines more n (e ∷ events) line spelt known here same_version =
    let next : Numbered = record { number = n; event = e } in
    let cut = one_line (fields_of line) (fields_of next) more.text.now _ (IsLine-fields_of lines.version line known) (IsLine-fields_of lines.version next spelt.0.0) (sym here ∙ spelt.1) in
    let same = fields_of-injective lines.version line next known spelt.0.0 cut.0 in
    (ap (λ (l : Numbered). Some l.event) same, (n + 1, rw same_version (spelt.0.1, cut.1)))

-- where there is no line in front, none comes
pub none_comes : (lines rest : Lines) (n : ℕ) (events : List Event) → AreLines (numbered n events) lines → ((line : Numbered) (more : List ℕ) → InRange lines.version line → lines.text.now ≢ line_text line ++ more) → AreComing events None (Journal rest)
none_comes lines rest n [] spelt none = refl
none_comes lines rest n (e ∷ events) spelt none = absurd (none (record { number = n; event = e }) _ spelt.0.0 spelt.1)

-- what is whole has its events
pub whole_has : (source : Source) (events : List Event) → IsWhole source events → Has source events
whole_has (Journal lines) events whole = (0, whole)
whole_has (Events list) events whole = whole

-- whether the next one may go
pub next_may_go : (past events : List Event) (next : Option Event) (rest : Source) → AreComing events next rest → NextMayGo past next ↔ MayGo past events
next_may_go past [] next rest coming = ((λ may. subst (NextMayGo past) coming may), λ may. absurd may)
next_may_go past (e ∷ events) next rest coming = ((λ may. subst (NextMayGo past) coming.0 may), λ may. subst (NextMayGo past) (sym coming.0) may)

pub one_is_left : (past : List Event) (next : Option Event) (rest : Source) → NextMayGo past next → left_of next rest ≡ size_of rest + 1
one_is_left past None rest may = absurd may
one_is_left past (Some e) rest may = refl

pub none_next_then : (next : Option Event) (b : Bool) → b ≡ is_some next → b ≡ true → next ≡ None → ⊥
none_next_then None b is t none = cc
none_next_then (Some e) b is t none = cc

pub is_none : (next : Option Event) (b : Bool) → b ≡ is_some next → b ≡ false → next ≡ None
is_none None b is f = refl
is_none (Some e) b is f = let no : true ≡ false = sym is ∙ f in cc

first_of_these : (past events : List Event) → MayGo past events → (e : Event) × (more : List Event) × (events ≡ e ∷ more)
first_of_these past [] may = absurd may
first_of_these past (e ∷ events) may = (e, events, refl)

pub none_left : (events : List Event) (rest : Source) → AreComing events None rest → events ≡ []
none_left [] rest coming = refl
none_left (e ∷ events) rest coming = let no : None ≡ Some e = coming.0 in cc

pub here : (es : List Event) (i : ℕ) (e : Event) (more : List Event) → drop i es ≡ e ∷ more → (i < length es) × (e ≡ get_or es i e) × (more ≡ drop (i + 1) es)
here [] zero e more is = cc
here [] (suc i) e more is = cc
here (x ∷ es) zero e more is =
    let head : x ≡ e = cc in
    let tail : es ≡ more = cc in
    (omega arith, sym head, sym tail)
here (x ∷ es) (suc i) e more is =
    let rest = here es i e more is in
    let after : suc i + 1 ≡ suc (i + 1) = omega arith in
    (omega (arith, rest.0), rest.1, rest.2 ∙ ap (λ n. drop n (x ∷ es)) (sym after))

-- how far both have come, after this history
pub record Going (first second : Source) (past : List Event) (left : Option Event) (left_rest : Source) (right : Option Event) (right_rest : Source) : Type 0 where
  pub x : List Event
  pub y : List Event
  pub i : ℕ
  pub j : ℕ
  pub x_is : IsWhole first x
  pub y_is : IsWhole second y
  pub reached : Reached x y i j past
  pub left_is : AreComing (drop i x) left left_rest
  pub right_is : AreComing (drop j y) right right_rest

-- both begin
unfoldable pub begin : (first second : Source) (left : Option Event) (left_rest : Source) (right : Option Event) (right_rest : Source) (x y : List Event) → IsWhole first x → IsWhole second y → AreApart x y
    → AreComing x left left_rest → AreComing y right right_rest → Going first second [] left left_rest right right_rest
begin first second left left_rest right right_rest x y p q apart coming coming' = record {
  x = x;
  y = y;
  i = 0;
  j = 0;
  x_is = p;
  y_is = q;
  reached = nothing_taken x y apart;
  left_is = coming;
  right_is = coming';
}

-- the events behind the next one
pub tail_of : (events : List Event) (e : Event) (next : Option Event) (rest : Source) → AreComing events next rest → next ≡ Some e → (more : List Event) × (events ≡ e ∷ more)
tail_of [] e next rest coming is = let no : None ≡ Some e = sym coming ∙ is in cc
tail_of (d ∷ events) e next rest coming is =
    let same : d ≡ e = cc in
    (events, ap (λ (f : Event). f ∷ events) same)

-- one event more was taken
module _ (first second : Source) (past : List Event) (left : Option Event) (left_rest : Source) (right : Option Event) (right_rest : Source) (going : Going first second past left left_rest right right_rest) (e : Event) where
  unfoldable pub left_goes : (left' : Option Event) (left_rest' : Source) → left ≡ Some e → DeliversEmitted past e
      → ((more : List Event) → AreComing (e ∷ more) left left_rest → AreComing more left' left_rest')
      → Going first second (e ∷ past) left' left_rest' right right_rest
  left_goes left' left_rest' next may comes_next =
      let (more, is) = tail_of (drop going.i going.x) e left left_rest going.left_is next in
      let at = here going.x going.i e more is in
      record {
        x = going.x;
        y = going.y;
        i = going.i + 1;
        j = going.j;
        x_is = going.x_is;
        y_is = going.y_is;
        reached = first_taken going.x going.y going.i going.j past e at.0 at.1 (subst (MayGo past) (sym is) may) going.reached;
        left_is = subst (λ (es : List Event). AreComing es left' left_rest') at.2 (comes_next more (subst (λ (es : List Event). AreComing es left left_rest) is going.left_is));
        right_is = going.right_is;
      }

  unfoldable pub right_goes : (right' : Option Event) (right_rest' : Source) → (NextMayGo past left → ⊥) → right ≡ Some e → DeliversEmitted past e
      → ((more : List Event) → AreComing (e ∷ more) right right_rest → AreComing more right' right_rest')
      → Going first second (e ∷ past) left left_rest right' right_rest'
  right_goes right' right_rest' not next may comes_next =
      let (more, is) = tail_of (drop going.j going.y) e right right_rest going.right_is next in
      let at = here going.y going.j e more is in
      record {
        x = going.x;
        y = going.y;
        i = going.i;
        j = going.j + 1;
        x_is = going.x_is;
        y_is = going.y_is;
        reached = second_taken going.x going.y going.i going.j past e at.0 at.1 (subst (MayGo past) (sym is) may)
            (λ first_goes. not ((next_may_go past (drop going.i going.x) left left_rest going.left_is).1 first_goes)) going.reached;
        left_is = going.left_is;
        right_is = subst (λ (es : List Event). AreComing es right' right_rest') at.2 (comes_next more (subst (λ (es : List Event). AreComing es right right_rest) is going.right_is));
      }

pub apart_of : (x y : List Event) (i j : ℕ) (past : List Event) → Reached x y i j past → AreApart x y
apart_of x y i j past reached = λ (a, b, p, q, stream, side). reached.apart a b p q stream side

pub past_end : (es : List Event) (i : ℕ) → length es ≤ i → drop i es ≡ []
past_end [] zero end = refl
past_end [] (suc i) end = refl
past_end (e ∷ es) zero end = absurd (omega arith)
past_end (e ∷ es) (suc i) end = past_end es i (omega arith)

pub none_next : (events : List Event) (next : Option Event) (rest : Source) → AreComing events next rest → events ≡ [] → next ≡ None
none_next [] next rest coming is = coming
none_next (e ∷ events) next rest coming is = cc

module _ (first second : Source) (past : List Event) (left : Option Event) (left_rest : Source) (right : Option Event) (right_rest : Source) (going : Going first second past left left_rest right right_rest) where
  -- neither may go
  pub stuck : (left ≡ None → right ≡ None → ⊥) → (NextMayGo past left → ⊥) → (NextMayGo past right → ⊥) → CannotMerge going.x going.y
  stuck some not not' = (
    apart_of going.x going.y going.i going.j past going.reached,
    none_honest going.x going.y going.i going.j past
        (λ p q. some (none_next (drop going.i going.x) left left_rest going.left_is (past_end going.x going.i p)) (none_next (drop going.j going.y) right right_rest going.right_is (past_end going.y going.j q)))
        (λ goes. not ((next_may_go past (drop going.i going.x) left left_rest going.left_is).1 goes))
        (λ goes. not' ((next_may_go past (drop going.j going.y) right right_rest going.right_is).1 goes))
        going.reached,
  )

  -- all was taken
  pub all_merged : left ≡ None → right ≡ None → OfSources first second (λ x y. AreApart x y × IsPreferred x y (reverse past))
  all_merged none none' =
      let p = none_left (drop going.i going.x) left_rest (subst (λ (n : Option Event). AreComing (drop going.i going.x) n left_rest) none going.left_is) in
      let q = none_left (drop going.j going.y) right_rest (subst (λ (n : Option Event). AreComing (drop going.j going.y) n right_rest) none' going.right_is) in (
        going.x,
        going.y,
        going.x_is,
        going.y_is,
        (apart_of going.x going.y going.i going.j past going.reached, subst (Prefers [] going.x going.y) (append-nil (reverse past)) (on_to_the_end going.x going.y going.i going.j past [] going.reached (p, q))),
      )
