-- How far a journal was written.
use Rattle.std.proofs.Common.{◌≡◌, ◌≢◌, ℕ, ◌+◌, ◌≤◌, ◌<◌, ◌^◌, Option, List, [], ◌∷◌, ◌++◌, length, get_or, drop, refl, sym, ◌∙◌, ap, subst, append_assoc, arith}
use Rattle.std.specs.List.{All, AllByRecursion, flat_map}
use Rattle.std.specs.Io.KnownBytes.{Appends}
use Rattle.std.proofs.lemmas.List.{append-nil, drop_more, drop_all}
use Rattle.std.proofs.lemmas.List.Elements.{recursion_from_All}
use Rattle.amo_text.specs.Sink.{AppendsFront}
use Rattle.amo_text.proofs.Written.{Appends-append, AppendsFront-Appends, AppendsFront-longer, AppendsFront-append}
use Rattle.amo_world.specs.declared.event.Event.{Event}
use Rattle.std.specs.Fmt.{decimal}
use Rattle.std.specs.Int.{IsInRange}
use Rattle.amo_text.specs.Line.{Lacks}
use Rattle.amo_text.proofs.Cuts.{Lacks-decimal}
use Rattle.amo_journal.specs.declared.numbered.Numbered.{Numbered}
use Rattle.amo_journal.specs.declared.version.Version.{Version}
use Rattle.amo_journal.specs.declared.version.Version.TheVariants.{One, Two}
use Rattle.amo_journal.specs.Version.{heading, Opens}
use Rattle.amo_journal.specs.Journal.{CanSpell, InRange, IsJournalOf, line_text, numbered}
use Rattle.amo_journal.proofs.Fields.{text_of_line}

-- the lines of events, numbered from n on
abbrev pub text_from : ℕ → List Event → List ℕ
text_from n events = flat_map line_text (numbered n events)

-- each event has a line with a number that fits
pub numbered_in_range : (version : Version) (n : ℕ) (events : List Event) → n + length events ≤ 2 ^ 64 → AllByRecursion (CanSpell version) events → AllByRecursion (InRange version) (numbered n events)
numbered_in_range version n [] few known = tt
numbered_in_range version n (e ∷ events) few known = ((omega arith, known.0), numbered_in_range version (n + 1) events (omega arith) known.1)

-- no line of an event begins as the heading of version 2 does
no_digit : ¬ (IsInRange 48 57 97)
no_digit digit = omega (arith, digit)

other_first : (ds more rest : List ℕ) → Lacks 97 ds → ds ++ 32 ∷ more ≢ 97 ∷ rest
other_first [] more rest lacks e = let here : 32 ≡ 97 = ap (λ (t : List ℕ). get_or t 0 0) e in omega (arith, here)
other_first (d ∷ ds) more rest lacks e = lacks.0 (ap (λ (t : List ℕ). get_or t 0 0) e)

begins_with_digit : (n : ℕ) (more rest : List ℕ) → n < 2 ^ 64 → decimal n ++ 32 ∷ more ≢ 97 ∷ rest
begins_with_digit n more rest small e = other_first (decimal n) more rest (Lacks-decimal 97 n small no_digit) e

pub no_heading : (version : Version) (lines : List Numbered) (more : List ℕ) → AllByRecursion (InRange version) lines → flat_map line_text lines ≢ heading Two ++ more
no_heading version [] more known e = let none = ap length e in omega (arith, none)
no_heading version (line ∷ lines) more known e =
    let text = text_of_line line in
    let whole = ap (λ (t : List ℕ). (t ++ 10 ∷ []) ++ flat_map line_text lines) text in
    begins_with_digit line.number _ _ known.0.0 (sym (append_assoc3 (decimal line.number) _ (10 ∷ []) (flat_map line_text lines)) ∙ sym whole ∙ e)
  where
    append_assoc3 : (a b c d : List ℕ) → ((a ++ 32 ∷ b) ++ c) ++ d ≡ a ++ 32 ∷ ((b ++ c) ++ d)
    append_assoc3 a b c d = simp append_assoc

pub opens_so : (version : Version) (lines : List Numbered) → AllByRecursion (InRange version) lines → Opens version (flat_map line_text lines) (heading version ++ flat_map line_text lines)
opens_so One lines known = (refl, λ more. no_heading One lines more known)
opens_so Two lines known = refl

-- the journal of events that have lines
pub journal_of : (version : Version) (events : List Event) → length events ≤ 2 ^ 64 → All (CanSpell version) events → IsJournalOf version events (heading version ++ text_from 0 events)
journal_of version events few known =
    let range = numbered_in_range version 0 events (omega arith) (recursion_from_All (CanSpell version) events known) in
    record { body = text_from 0 events; opens = opens_so version (numbered 0 events) range; lines = (range, refl) }

-- the lines of the events before place i were appended
pub record HasWritten (version : Version) (old new : Option (List ℕ)) (events : List Event) (i : ℕ) : Type 0 where
  pub front : List ℕ
  pub appended : Appends old new front
  pub rest : front ++ text_from i (drop i events) ≡ heading version ++ text_from 0 events

pub heading_written : (version : Version) (old new : Option (List ℕ)) (events : List Event) → Appends old new (heading version) → HasWritten version old new events 0
heading_written version old new events appended = record { front = heading version; appended = appended; rest = refl }

-- a beginning of the heading was written
pub begun_in_heading : (version : Version) (old new : Option (List ℕ)) (events : List Event) → AppendsFront old new (heading version) → AppendsFront old new (heading version ++ text_from 0 events)
begun_in_heading version old new events begun = AppendsFront-longer old new (heading version) (text_from 0 events) begun

module _ (version : Version) (old now new : Option (List ℕ)) (events : List Event) (i : ℕ) (so_far : HasWritten version old now events i) where
  -- a beginning of the journal was written
  pub begun_here : AppendsFront old now (heading version ++ text_from 0 events)
  begun_here = subst (AppendsFront old now) so_far.rest (AppendsFront-longer old now so_far.front (text_from i (drop i events)) (AppendsFront-Appends old now so_far.front so_far.appended))

  module _ (e : Event) (within : i < length events) (here : e ≡ get_or events i e) where
    whole_on : so_far.front ++ (line_text (record { number = i; event = e }) ++ text_from (i + 1) (drop (i + 1) events)) ≡ heading version ++ text_from 0 events
    whole_on =
        let cut = drop_more events i e within ∙ ap (λ (x : Event). x ∷ drop (i + 1) events) (sym here) in
        sym (ap (λ (t : List Event). so_far.front ++ text_from i t) cut) ∙ so_far.rest

    pub more_written : Appends now new (line_text (record { number = i; event = e })) → HasWritten version old new events (i + 1)
    more_written line = record {
      front = so_far.front ++ line_text (record { number = i; event = e });
      appended = Appends-append old now new so_far.front (line_text (record { number = i; event = e })) so_far.appended line;
      rest = append_assoc so_far.front (line_text (record { number = i; event = e })) (text_from (i + 1) (drop (i + 1) events)) ∙ whole_on;
    }

    pub begun_in_line : AppendsFront now new (line_text (record { number = i; event = e })) → AppendsFront old new (heading version ++ text_from 0 events)
    begun_in_line line =
        subst (AppendsFront old new) (append_assoc so_far.front (line_text (record { number = i; event = e })) (text_from (i + 1) (drop (i + 1) events)) ∙ whole_on)
        (AppendsFront-longer old new (so_far.front ++ line_text (record { number = i; event = e })) (text_from (i + 1) (drop (i + 1) events))
        (AppendsFront-append old now new so_far.front (line_text (record { number = i; event = e })) so_far.appended line))

pub all_written : (version : Version) (old new : Option (List ℕ)) (events : List Event) (i : ℕ) → HasWritten version old new events i → length events ≤ i → Appends old new (heading version ++ text_from 0 events)
all_written version old new events i so_far all =
    subst (Appends old new) (sym (append-nil so_far.front) ∙ ap (λ (t : List Event). so_far.front ++ text_from i t) (sym (drop_all i events all)) ∙ so_far.rest) so_far.appended
