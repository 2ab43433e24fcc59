-- How far a receiver's journal was read.
use Rattle.std.proofs.Common.{◌≡◌, ◌∙◌, ℕ, ◌+◌, Bool, true, false, Option, List, [], ◌∷◌, ◌++◌, length, length-append, refl, sym, ap, arith, append_assoc, subst, eqb, inl, inr, ◌⊎◌}
use Rattle.std.specs.Prelude.{◌==◌, ◌||◌, if◌then◌else◌}
use Rattle.std.proofs.lemmas.Bool.Decides.{eqb_tells}
use Rattle.std.specs.List.{flat_map}
use Rattle.std.proofs.lemmas.List.{append-nil}
use Rattle.std.proofs.lemmas.List.Folds.{list_any-append}
use Rattle.amo_text.specs.Line.{Lacks}
use Rattle.amo_world.specs.declared.event.Event.{Event}
use Rattle.amo_journal.specs.declared.lines.Lines.{Lines}
use Rattle.amo_journal.specs.declared.numbered.Numbered.{Numbered}
use Rattle.amo_journal.specs.declared.version.Version.{Version}
use Rattle.amo_journal.specs.Journal.{InRange, fields_of, line_text, numbered}
use Rattle.amo_journal.proofs.Fields.{IsLine-fields_of}
use Rattle.amo_text.proofs.Readings.{IsReadTo}
use Rattle.amo_text.proofs.Readings as readings
use Rattle.amo_telling.specs.declared.gets.Gets.{Gets}
use Rattle.amo_telling.specs.declared.reading.Reading.{Reading}
use Rattle.amo_telling.specs.declared.reading.Reading.TheVariants.{Whole, Malformed, Gap, OfSender, TooLong}
use Rattle.amo_telling.specs.Got.{Stops, event_line, got_text, has_receivers, is_receivers, whole_of}
use Rattle.amo_telling.specs.Gets.{AreGotFurther, HaveRead, if_receives}

-- one event more
got_more : (after : Option ℕ) (json : Bool) (number : ℕ) (events : List Event) (e : Event) → got_text after json number (events ++ e ∷ []) ≡ got_text after json number events ++ event_line after json (number + length events) e
got_more after json number [] e = append-nil (event_line after json number e) ∙ ap (λ n. event_line after json n e) (omega arith)
got_more after json number (first ∷ events) e =
    ap (λ (t : List ℕ). event_line after json number first ++ t)
    (got_more after json (number + 1) events e ∙ ap (λ n. got_text after json (number + 1) events ++ event_line after json n e) (omega arith))
    ∙ sym (append_assoc (event_line after json number first) (got_text after json (number + 1) events) (event_line after json (number + length (first ∷ events)) e))

or_false : (b : Bool) → (b || false) ≡ b
or_false true = refl
or_false false = refl

-- and what is kept
pub read_more : (after : Option ℕ) (json : Bool) (gets now : Gets) (events : List Event) (e : Event) → HaveRead after json gets events
    → now.after ≡ gets.after → now.json ≡ gets.json → now.lines ≡ gets.lines + 1 → now.receives ≡ (gets.receives || is_receivers e.side)
    → HaveRead after json now (events ++ e ∷ [])
read_more after json gets now events e so_far same_after same_json lines receives = record {
  after_is = same_after ∙ so_far.after_is;
  json_is = same_json ∙ so_far.json_is;
  lines = lines ∙ ap (λ n. n + 1) so_far.lines ∙ sym (length-append events (e ∷ []));
  receives = receives ∙ ap (λ (b : Bool). b || is_receivers e.side) so_far.receives
      ∙ ap (λ (b : Bool). has_receivers events || b) (sym (or_false (is_receivers e.side))) ∙ sym (list_any-append (λ (event : Event). is_receivers event.side) events (e ∷ []));
}

-- an event is told as is asked
pub told_so : (after : Option ℕ) (json : Bool) (gets : Gets) (events : List Event) (number : ℕ) (e : Event) → HaveRead after json gets events → event_line gets.after gets.json number e ≡ event_line after json number e
told_so after json gets events number e so_far = ap (λ (a : Option ℕ). event_line a gets.json number e) so_far.after_is ∙ ap (λ (j : Bool). event_line after j number e) so_far.json_is

-- whose lines are that read to their end
pub whose : (events : List Event) → whole_of events ≡ if_receives (has_receivers events) (length events)
whose [] = refl
whose (e ∷ events) = by_receivers (has_receivers (e ∷ events))
  where
    some : ((eqb (length (e ∷ events)) 0 ≡ true) × (length (e ∷ events) ≡ 0)) ⊎ ((eqb (length (e ∷ events)) 0 ≡ false) × (length (e ∷ events) ≡ 0 → ⊥)) → (length (e ∷ events) == 0) ≡ false
    some (inl (is, none)) = absurd (omega (arith, none))
    some (inr (is, other)) = is

    by_receivers : (b : Bool) → (if b then Whole else OfSender) ≡ if_receives b (length (e ∷ events))
    by_receivers true = refl
    by_receivers false = ap (λ (b : Bool). if b then Whole else OfSender) (sym (some (eqb_tells (length (e ∷ events)) 0)))

-- the next line
pub numbered_push : (n k : ℕ) (events : List Event) (l : Numbered) → k ≡ n + length events → l.number ≡ k → numbered n events ++ l ∷ [] ≡ numbered n (events ++ l.event ∷ [])
numbered_push n k [] l here is =
    let same : l.number ≡ n = omega arith in
    ap (λ (m : ℕ). line m ∷ []) same
  where
    line : ℕ → Numbered
    line m = record { number = m; event = l.event }
numbered_push n k (e ∷ events) l here is = ap (λ (t : List Numbered). record { number = n; event = e } ∷ t) (numbered_push (n + 1) k events l (omega arith) is)

-- lines that go on behind past events were read up to here, and told of behind a text
pub record IsFurther (after : Option ℕ) (json : Bool) (past : List Event) (lines : Lines) (rest before : List ℕ) (gets : Gets) (text : List ℕ) : Type 0 where
  pub events : List Event
  pub read : IsReadTo fields_of (InRange lines.version) lines.text.now (numbered (length past) events) rest
  pub have : HaveRead after json gets (past ++ events)
  pub told : text ≡ before ++ got_text after json (length past) events

module _ (after : Option ℕ) (json : Bool) (past : List Event) (lines : Lines) (before : List ℕ) where
  pub none_yet : (gets : Gets) → HaveRead after json gets past → IsFurther after json past lines lines.text.now before gets before
  none_yet gets have = record {
    events = [];
    read = (tt, refl);
    have = subst (HaveRead after json gets) (sym (append-nil past)) have;
    told = sym (append-nil before);
  }

  module _ (rest text : List ℕ) (gets : Gets) (so_far : IsFurther after json past lines rest before gets text) where
    number_is : gets.lines ≡ length past + length so_far.events
    number_is = so_far.have.lines ∙ length-append past so_far.events

    -- one line more
    pub one_further : (line : Numbered) (more text' : List ℕ) (now : Gets) → InRange lines.version line → rest ≡ line_text line ++ more → line.number ≡ gets.lines
        → ((after : Option ℕ) (json : Bool) (past : List Event) → HaveRead after json gets past → HaveRead after json now (past ++ line.event ∷ []) × (text' ≡ text ++ event_line after json gets.lines line.event))
        → IsFurther after json past lines more before now text'
    one_further line more text' now known is here takes =
        let taken = takes after json (past ++ so_far.events) so_far.have in
        record {
          events = so_far.events ++ line.event ∷ [];
          read = subst (λ (ls : List Numbered). IsReadTo fields_of (InRange lines.version) lines.text.now ls more) (numbered_push (length past) gets.lines so_far.events line number_is here)
              (readings.read_on fields_of (InRange lines.version) (IsLine-fields_of lines.version) lines.text.now rest more (numbered (length past) so_far.events) line so_far.read known is);
          have = subst (HaveRead after json now) (append_assoc past so_far.events (line.event ∷ [])) taken.0;
          told = taken.1 ∙ ap (λ (t : List ℕ). t ++ event_line after json gets.lines line.event) so_far.told
              ∙ append_assoc before (got_text after json (length past) so_far.events) (event_line after json gets.lines line.event)
              ∙ ap (λ n. before ++ (got_text after json (length past) so_far.events ++ event_line after json n line.event)) number_is
              ∙ ap (λ (t : List ℕ). before ++ t) (sym (got_more after json (length past) so_far.events line.event));
        }

    -- where reading stops
    pub stopped_at : (reading : Reading) → ((events : List Event) → HaveRead after json gets events → Stops lines.version events rest reading)
        → (events : List Event) × (more : List ℕ) × HaveRead after json gets (past ++ events) × (text ≡ before ++ more) × AreGotFurther after json past lines rest reading events more
    stopped_at reading stops = (
      so_far.events,
      got_text after json (length past) so_far.events,
      so_far.have,
      so_far.told,
      record {
        front = flat_map line_text (numbered (length past) so_far.events);
        whole = so_far.read.1;
        read = (so_far.read.0, refl);
        stops = stops (past ++ so_far.events) so_far.have;
        written = refl;
      },
    )

-- it stops at the end, or in a line without its end
pub at_end : (after : Option ℕ) (json : Bool) (version : Version) (gets : Gets) (rest : List ℕ) (reading : Reading) → Lacks 10 rest → reading ≡ if_receives gets.receives gets.lines
    → (events : List Event) → HaveRead after json gets events → Stops version events rest reading
at_end after json version gets rest reading lacks is events have =
    subst (Stops version events rest) (sym same) (by_kind (whole_of events) refl)
  where
    same : reading ≡ whole_of events
    same = is ∙ ap (λ (b : Bool). if_receives b gets.lines) have.receives ∙ ap (λ n. if_receives (has_receivers events) n) have.lines ∙ sym (whose events)

    not_malformed : (events : List Event) (at : ℕ) → whole_of events ≡ Malformed at → ⊥
    not_malformed [] at e = cc
    not_malformed (first ∷ events) at e = by_receivers (has_receivers (first ∷ events)) e
      where
        by_receivers : (b : Bool) → (if b then Whole else OfSender) ≡ Malformed at → ⊥
        by_receivers true e = cc
        by_receivers false e = cc

    not_long : (events : List Event) → whole_of events ≡ TooLong → ⊥
    not_long [] e = cc
    not_long (first ∷ events) e = by_receivers (has_receivers (first ∷ events)) e
      where
        by_receivers : (b : Bool) → (if b then Whole else OfSender) ≡ TooLong → ⊥
        by_receivers true e = cc
        by_receivers false e = cc

    not_gap : (events : List Event) (at : ℕ) → whole_of events ≡ Gap at → ⊥
    not_gap [] at e = cc
    not_gap (first ∷ events) at e = by_receivers (has_receivers (first ∷ events)) e
      where
        by_receivers : (b : Bool) → (if b then Whole else OfSender) ≡ Gap at → ⊥
        by_receivers true e = cc
        by_receivers false e = cc

    by_kind : (kind : Reading) → whole_of events ≡ kind → Stops version events rest kind
    by_kind Whole is_kind = (lacks, is_kind)
    by_kind OfSender is_kind = (lacks, is_kind)
    by_kind (Malformed at) is_kind = absurd (not_malformed events at is_kind)
    by_kind (Gap at) is_kind = absurd (not_gap events at is_kind)
    by_kind TooLong is_kind = absurd (not_long events is_kind)
