-- Events that are read while their text comes.
use Rattle.std.proofs.Common.{◌≡◌, ◌≢◌, ◌∙◌, ℕ, ◌-◌, ◌<◌, ◌≤◌, Bool, true, Option, None, Some, IfSome, List, [], ◌∷◌, ◌++◌, length, drop, take, refl, sym, ap, subst, append_assoc, arith, inl}
use Rattle.std.specs.List.{AllByRecursion, flat_map}
use Rattle.std.specs.Option.{option_to_list}
use Rattle.std.proofs.lemmas.List.{append-nil, take-append-drop}
use Rattle.amo_text.specs.Line.{Lacks}
use Rattle.amo_text.proofs.Cuts.{Lacks-append, no_cut}
use Rattle.amo_text.proofs.Readings as readings
use Rattle.amo_world.specs.declared.event.Event.{Event}
use Rattle.amo_world.specs.Stream.{IsStream}
use Rattle.amo_journal.specs.declared.lines.Lines.{Lines}
use Rattle.amo_journal.specs.declared.numbered.Numbered.{Numbered}
use Rattle.amo_journal.specs.declared.version.Version.{Version}
use Rattle.amo_journal.specs.declared.version.Version.TheVariants.{One, Two}
use Rattle.amo_journal.specs.Version.{heading, Opens}
use Rattle.amo_journal.specs.Journal.{fields_of, line_text, numbered, InRange}
use Rattle.amo_journal.specs.Lines.{Tell}
use Rattle.amo_journal.proofs.Fields.{IsLine-fields_of}
use Rattle.amo_journal.proofs.Gaps.{length-numbered, next_number}
use Rattle.amo_pieces.specs.Journal.{IsWhole}
use Rattle.amo_pieces.specs.Text.{IsTextOf}
use Rattle.amo_audit.specs.Audit.{AreOf}
use Rattle.amo_audit.specs.Parts.{lines_of}
use Rattle.amo_audit.specs.Pieces.{LeavesOut}
use Rattle.amo_audit.specs.declared.journal_reader.JournalReader.{JournalReader}
use Rattle.amo_audit.specs.Marks.{MarksAll}
use Rattle.amo_audit.specs.Reader.{GoesOn, HasCome, HasRead, IsReadTo, LooksOn, grown}
use Rattle.amo_audit.proofs.Come.{StandsAt, joins, joins_all, lacks_whole}
use Rattle.amo_audit.proofs.Parts.{end_kept, first_comes, first_stays, opens_more}

-- more has come behind the first line, or more of that
pub more_comes : (version : Option Version) (rest text bytes : List ℕ) (events : List Event) → (version ≡ None → Lacks 10 bytes) → IsReadTo version rest text events → IsReadTo version (rest ++ bytes) (text ++ bytes) events
more_comes None rest text bytes events lacks (is, none, no_event) = (ap (λ (t : List ℕ). t ++ bytes) is, Lacks-append 10 text bytes none (lacks refl), no_event)
more_comes (Some v) rest text bytes events lacks (first, (body, opens, are)) = (
  first_stays text bytes first,
  (
    body ++ bytes,
    opens_more v body text bytes first opens,
    record {
      known = are.known;
      whole = ap (λ (t : List ℕ). t ++ bytes) are.whole ∙ append_assoc (flat_map line_text (numbered 0 events)) rest bytes;
    },
  ),
)

-- the first line has come whole
pub heading_comes : (version : Version) (rest text bytes line behind body : List ℕ) (events : List Event) → IsReadTo None rest text events → bytes ≡ line ++ 10 ∷ behind → Lacks 10 line
    → Opens version body (rest ++ bytes) → IsReadTo (Some version) body (text ++ bytes) events
heading_comes version rest text bytes line behind body events (is, none, no_event) cut one opens = (
  first_comes text bytes line behind none cut one,
  (
    body,
    subst (Opens version body) (ap (λ (t : List ℕ). t ++ bytes) is) opens,
    record {
      known = subst (λ (es : List Event). AllByRecursion (InRange version) (numbered 0 es)) (sym no_event) tt;
      whole = subst (λ (es : List Event). body ≡ flat_map line_text (numbered 0 es) ++ body) (sym no_event) refl;
    },
  ),
)

-- one event more was read
pub one_read : (version : Version) (rest more text : List ℕ) (events : List Event) (line : Numbered) → IsReadTo (Some version) rest text events → InRange version line → rest ≡ line_text line ++ more
    → line.number ≡ length events → IsReadTo (Some version) more text (events ++ line.event ∷ [])
one_read version rest more text events line (first, (body, opens, are)) known here number =
    let read = readings.read_on fields_of (InRange version) (IsLine-fields_of version) body rest more (numbered 0 events) line (are.known, are.whole) known here in
    let next = next_number (numbered 0 events) events line (length events) (sym (length-numbered 0 events)) refl number in (
      first,
      (
        body,
        opens,
        record {
          known = subst (λ (l : List Numbered). AllByRecursion (InRange version) l) next read.0;
          whole = subst (λ (l : List Numbered). body ≡ flat_map line_text l ++ more) next read.1;
        },
      ),
    )

-- what is left behind a line
pub left_behind : (text front more : List ℕ) (read : ℕ) → drop read text ≡ front ++ more → drop (length text - length more) text ≡ more
left_behind text front more read is =
    end_kept text (take read text ++ front) more (sym (take-append-drop read text) ∙ ap (λ (t : List ℕ). take read text ++ t) is ∙ sym (append_assoc (take read text) front more))

-- what is kept where more comes
pub rest_kept : (text rest : List ℕ) (read : ℕ) → rest ≡ drop read text → drop (length text - length rest) text ≡ rest
rest_kept text rest read is =
    end_kept text (take read text) rest (sym (take-append-drop read text) ∙ ap (λ (t : List ℕ). take read text ++ t) (sym is))

-- all was read
pub all_told : (version : Option Version) (rest text : List ℕ) (events : List Event) → rest ≡ [] → IsReadTo version rest text events → (lines : Lines) × AreOf text lines × Tell events lines
all_told None rest text events empty (is, none, no_event) =
    let nothing : text ≡ [] = sym is ∙ empty in (
      lines_of One [],
      (nothing, λ more e. none_opens more (sym nothing ∙ e)),
      subst (λ (es : List Event). Tell es (lines_of One [])) (sym no_event) (tt, refl),
    )
  where
    none_opens : (more : List ℕ) → [] ≡ heading Two ++ more → ⊥
    none_opens more e = cc
all_told (Some version) rest text events empty (first, (body, opens, are)) =
    (lines_of version body, opens, readings.all_read fields_of (InRange version) (IsLine-fields_of version) body rest (numbered 0 events) (are.known, are.whole) empty)

-- a text of whole lines, to which a piece is added
pub stands : (version : Option Version) (rest front : List ℕ) (events : List Event) → IsReadTo version rest front events → IsWhole front → StandsAt version front
stands None rest front events (is, none, no_event) whole = lacks_whole front none whole
stands (Some v) rest front events (first, (body, opens, are)) whole = ((λ none. no_cut 10 [] first.line first.behind tt (sym none ∙ first.cut)), (body, opens))

-- a piece begins
pub piece_begins : (version : Option Version) (rest front begun : List ℕ) (count : ℕ) (events : List Event) (pieces : List (List ℕ)) → IsReadTo version rest front events → IsWhole front → LeavesOut version begun (Some count)
    → IsTextOf pieces front → IsTextOf (begun ∷ pieces) (front ++ drop count begun)
piece_begins version rest front begun count events pieces read whole leaves is =
    let joined = joins_all version front begun count (stands version rest front events read whole) whole leaves in
    (front, joined.0, is, joined.1)

pub may_go_on : (version : Option Version) (rest front begun : List ℕ) (count : ℕ) (events : List Event) (pieces : List (List ℕ)) → IsReadTo version rest front events → IsWhole front → LeavesOut version begun (Some count)
    → 6 ≤ length begun → IsTextOf pieces front → GoesOn (begun ∷ pieces) (front ++ drop count begun)
may_go_on version rest front begun count events pieces read whole leaves long is = λ more.
    let joined = joins version front begun more count (stands version rest front events read whole) whole leaves (inl long) in
    (front, joined.0, is, joined.1)

-- no more of it changes nothing
pub none_grown : (pieces : List (List ℕ)) → grown [] pieces ≡ pieces
none_grown [] = refl
none_grown (piece ∷ pieces) = ap (λ (p : List ℕ). p ∷ pieces) (append-nil piece)

-- more of it comes
pub more_grown : (pieces : List (List ℕ)) (text more : List ℕ) → GoesOn pieces text → IsTextOf (grown more pieces) (text ++ more)
more_grown [] text more on = absurd on
more_grown (piece ∷ pieces) text more on = on more

pub goes_further : (pieces : List (List ℕ)) (text more : List ℕ) → GoesOn pieces text → GoesOn (grown more pieces) (text ++ more)
goes_further [] text more on = absurd on
goes_further (piece ∷ pieces) text more on = λ rest.
    subst (λ (p : List ℕ). IsTextOf (p ∷ pieces) ((text ++ more) ++ rest)) (sym (append_assoc piece more rest))
    (subst (λ (t : List ℕ). IsTextOf ((piece ++ (more ++ rest)) ∷ pieces) t) (sym (append_assoc text more rest)) (on (more ++ rest)))

-- nothing was read for the next event
pub looks_nothing : (old now : JournalReader) (pieces : List (List ℕ)) (events : List Event) → HasCome old pieces events → now.goes_on ≡ old.goes_on → now.sides.has ≡ old.sides.has → now.next ≡ old.next
    → ((text : List ℕ) → HasRead old.events text events → HasRead now.events text (events ++ [])) → (old.is_over ≡ true → now.is_over ≡ true) → LooksOn old now pieces events
looks_nothing old now pieces events has goes sides next read over = record {
  fresh = [];
  come = record {
    text = has.text;
    is_text = has.is_text;
    goes_on = λ on. has.goes_on (sym goes ∙ on);
    read = read has.text has.read;
    sides = subst (λ (s : List Bool). MarksAll s (events ++ [])) (sym sides) (subst (λ (es : List Event). MarksAll old.sides.has es) (sym (append-nil events)) has.sides);
    stream = subst (λ (n : Option Event). IfSome n (λ e. IsStream e.stream)) (sym next) has.stream;
  };
  next = ap option_to_list next ∙ sym (append-nil (option_to_list old.next));
  over = λ o. (refl, over o);
}
