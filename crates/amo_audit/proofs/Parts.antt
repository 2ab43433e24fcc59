-- Lines that come part by part, as far as they were judged.
use Rattle.std.proofs.Common.{◌≡◌, ◌≢◌, ◌∙◌, ℕ, ◌+◌, ◌-◌, ◌<◌, ◌≤◌, ◌^◌, Bool, true, false, Option, None, Some, List, [], ◌∷◌, ◌++◌, length, length-append, drop, codes, refl, sym, ap, subst, arith, append_assoc, inl, inr}
use Rattle.std.specs.Prelude.{◌↔◌, IsTrue}
use Rattle.std.specs.List.{flat_map}
use Rattle.amo_text.specs.Line.{Lacks}
use Rattle.std.proofs.Math.Seq.{drop-append_seam}
use Rattle.amo_text.proofs.Cuts.{Lacks-append, one_cut}
use Rattle.amo_text.proofs.Readings as readings
use Rattle.amo_world.specs.declared.event.Event.{Event}
use Rattle.amo_journal.specs.declared.lines.Lines.{Lines}
use Rattle.amo_journal.specs.declared.numbered.Numbered.{Numbered}
use Rattle.amo_journal.specs.declared.version.Version.{Version}
use Rattle.amo_journal.specs.declared.version.Version.TheVariants.{One, Two}
use Rattle.amo_journal.specs.Version.{heading, Opens}
use Rattle.amo_journal.specs.Gathering.{Keeps}
use Rattle.amo_journal.specs.Journal.{fields_of, line_text, numbered, HasGap, HasMalformed, InRange, SpellsLines}
use Rattle.amo_journal.proofs.Fields.{IsLine-fields_of}
use Rattle.amo_journal.proofs.Gaps.{all_taken, gap_told, length-numbered}
use Rattle.amo_pieces.specs.Journal.{IsWhole}
use Rattle.amo_pieces.proofs.Openings.{opened}
use Rattle.amo_pieces.proofs.Wholes.{whole_tail}
use Rattle.amo_audit.specs.declared.auditor.Auditor.{Auditor}
use Rattle.amo_audit.specs.declared.judged_lines.JudgedLines.{JudgedLines}
use Rattle.amo_audit.specs.declared.verdict.Verdict.{Verdict}
use Rattle.amo_audit.specs.Audit.{Finds, JudgesEvents, line_named}
use Rattle.amo_audit.specs.Parts.{AreLinesIn, GathersIn, HasFirstLine, HasJudged, IsJudgedTo, IsOpened, IsStuckBehind, JudgesBody, MayBeJudged, lines_of}
use Rattle.amo_audit.proofs.Found.{events_judged}
use Rattle.amo_audit.proofs.Named.{events_within}

abbrev pub Taken : Auditor → List Event → Type 0
Taken auditor past = Finds auditor.world auditor.finding past

-- no line was judged
pub none_judged : (judged : JudgedLines) (version : Version) (body : List ℕ) → judged.lines ≡ 0 → judged.gap ≡ None → Taken judged.auditor [] → HasJudged judged version body body
none_judged judged version body none no_gap taken = record {
  lines = [];
  known = tt;
  whole = refl;
  gathers = record { events = []; counted = none; kept = subst (λ (g : Option ℕ). Keeps [] g []) (sym no_gap) refl; taken = taken };
  few = omega (arith, none);
}

module _ (judged : JudgedLines) (version : Version) (body rest : List ℕ) (so_far : HasJudged judged version body rest) where
  -- one line more
  pub one_judged : (now : JudgedLines) (line : Numbered) (more : List ℕ) → InRange version line → rest ≡ line_text line ++ more → now.lines ≡ judged.lines + 1 → judged.lines + 3 < 2 ^ 64
      → ((lines : List Numbered) → GathersIn judged lines → GathersIn now (lines ++ line ∷ [])) → HasJudged now version body more
  one_judged now line more known here next few takes =
      let read = readings.read_on fields_of (InRange version) (IsLine-fields_of version) body rest more so_far.lines line (so_far.known, so_far.whole) known here in
      record {
        lines = so_far.lines ++ line ∷ [];
        known = read.0;
        whole = read.1;
        gathers = takes so_far.lines so_far.gathers;
        few = omega (arith, next, few);
      }

  -- no line stands in front of what is left
  pub stops : (now : JudgedLines) (has_end : Bool) → ((line : Numbered) (more : List ℕ) → InRange version line → rest ≢ line_text line ++ more)
      → (has_end ≡ true → (text : List ℕ) × (behind : List ℕ) × (rest ≡ text ++ 10 ∷ behind) × Lacks 10 text) → (has_end ≡ false → Lacks 10 rest)
      → now.auditor ≡ judged.auditor → now.lines ≡ judged.lines → now.gap ≡ judged.gap → IsJudgedTo now has_end version body rest
  stops now false none found lacks auditor lines gap = (
    record {
      lines = so_far.lines;
      known = so_far.known;
      whole = so_far.whole;
      gathers = rw (auditor, lines, gap) so_far.gathers;
      few = rw lines so_far.few;
    },
    lacks refl,
  )
  stops now true none found lacks auditor lines gap =
      let (text, behind, cut, one) = found refl in
      record {
        lines = so_far.lines;
        text = text;
        behind = behind;
        known = so_far.known;
        whole = so_far.whole ∙ ap (λ (t : List ℕ). flat_map line_text so_far.lines ++ t) cut;
        one = one;
        none = λ line known is. none line behind known (readings.in_front fields_of (InRange version) (IsLine-fields_of version) line rest text behind cut is);
        counted = lines ∙ so_far.gathers.counted;
        few = rw lines so_far.few;
      }

  -- all of a body was judged
  pub spelt : rest ≡ [] → SpellsLines version body so_far.lines
  spelt empty = readings.all_read fields_of (InRange version) (IsLine-fields_of version) body rest so_far.lines (so_far.known, so_far.whole) empty

  pub body_gap : (at : ℕ) → rest ≡ [] → judged.gap ≡ Some at → HasGap version body at
  body_gap at empty is = gap_told Taken judged.auditor judged.lines judged.gap version so_far.lines body so_far.gathers (spelt empty) at is

  pub body_judged : (v : Verdict) → rest ≡ [] → judged.gap ≡ None → ((events : List Event) → Taken judged.auditor events → JudgesEvents events v) → JudgesBody version body v
  body_judged v empty none judges =
      let (events, told, taken) = all_taken Taken judged.auditor judged.lines judged.gap version so_far.lines body so_far.gathers (spelt empty) none in
      events_judged (lines_of version body) events v told (judges events taken)

  -- a last line has no end
  pub endless : rest ≢ [] → Lacks 10 rest → HasMalformed version body (judged.lines + 1)
  endless some lacks =
      readings.malformed_after fields_of (InRange version) (IsLine-fields_of version) body rest judged.lines (so_far.lines, (so_far.known, so_far.whole), so_far.gathers.counted) some
      (readings.endless fields_of (InRange version) (IsLine-fields_of version) rest some lacks).1

  -- the lines that are named are few
  gap_few : (at : ℕ) (lines : List Numbered) (gap : Option ℕ) → gap ≡ Some at → GathersIn judged lines → judged.gap ≡ gap → at ≤ length lines
  gap_few at lines gap is gathers same =
      let kept = subst (λ (g : Option ℕ). Keeps gathers.events g lines) (same ∙ is) gathers.kept in
      let long = ap length kept.whole ∙ length-append (numbered 0 kept.before) (kept.line ∷ kept.after) in
      let front = length-numbered 0 kept.before in
      omega (arith, long, front, kept.count)

  pub few_to_gap : (at : ℕ) → judged.gap ≡ Some at → at + 1 < 2 ^ 64
  few_to_gap at is = let within = gap_few at so_far.lines judged.gap is so_far.gathers refl in omega (arith, within, so_far.gathers.counted, so_far.few)

  pub few_to_fault : (v : Verdict) → judged.gap ≡ None → ((events : List Event) → Taken judged.auditor events → JudgesEvents events v) → line_named v + 1 < 2 ^ 64
  few_to_fault v none judges =
      let within = events_within so_far.gathers.events v (judges so_far.gathers.events so_far.gathers.taken) in
      let keeps = subst (λ (g : Option ℕ). Keeps so_far.gathers.events g so_far.lines) none so_far.gathers.kept in
      let long = ap length keeps ∙ length-numbered 0 so_far.gathers.events in
      omega (arith, within, long, so_far.gathers.counted, so_far.few)

-- a whole line that is of no event is malformed
pub stuck_malformed : (version : Version) (body : List ℕ) (count : ℕ) → IsStuckBehind version body count → HasMalformed version body (count + 1)
stuck_malformed version body count stuck =
    let rest = stuck.text ++ 10 ∷ stuck.behind in
    let unread = readings.unread fields_of (InRange version) (IsLine-fields_of version) rest stuck.text stuck.behind refl stuck.one stuck.none in
    readings.malformed_after fields_of (InRange version) (IsLine-fields_of version) body rest count (stuck.lines, (stuck.known, stuck.whole), stuck.counted) unread.0 unread.1

-- a body of which more has come
pub more_behind : (judged : JudgedLines) (version : Version) (body rest more : List ℕ) → HasJudged judged version body rest → HasJudged judged version (body ++ more) (rest ++ more)
more_behind judged version body rest more so_far = record {
  lines = so_far.lines;
  known = so_far.known;
  whole = ap (λ (t : List ℕ). t ++ more) so_far.whole ∙ append_assoc (flat_map line_text so_far.lines) rest more;
  gathers = so_far.gathers;
  few = so_far.few;
}

pub stuck_before : (version : Version) (body more : List ℕ) (count : ℕ) → IsStuckBehind version body count → IsStuckBehind version (body ++ more) count
stuck_before version body more count stuck = record {
  lines = stuck.lines;
  text = stuck.text;
  behind = stuck.behind ++ more;
  known = stuck.known;
  whole = ap (λ (t : List ℕ). t ++ more) stuck.whole ∙ append_assoc (flat_map line_text stuck.lines) (stuck.text ++ 10 ∷ stuck.behind) more
      ∙ ap (λ (t : List ℕ). flat_map line_text stuck.lines ++ t) (append_assoc stuck.text (10 ∷ stuck.behind) more);
  one = stuck.one;
  none = stuck.none;
  counted = stuck.counted;
  few = stuck.few;
}

-- a first line stays the first
pub first_stays : (text more : List ℕ) → HasFirstLine text → HasFirstLine (text ++ more)
first_stays text more first = record {
  line = first.line;
  behind = first.behind ++ more;
  cut = ap (λ (t : List ℕ). t ++ more) first.cut ∙ append_assoc first.line (10 ∷ first.behind) more;
  one = first.one;
}

pub first_comes : (text bytes line behind : List ℕ) → Lacks 10 text → bytes ≡ line ++ 10 ∷ behind → Lacks 10 line → HasFirstLine (text ++ bytes)
first_comes text bytes line behind none cut one = record {
  line = text ++ line;
  behind = behind;
  cut = ap (λ (t : List ℕ). text ++ t) cut ∙ sym (append_assoc text line (10 ∷ behind));
  one = Lacks-append 10 text line none one;
}

-- what is behind a heading has come, and more of it
no_end : Lacks 10 (codes "amo 2")
no_end = ((λ e. omega (arith, e)), ((λ e. omega (arith, e)), ((λ e. omega (arith, e)), ((λ e. omega (arith, e)), ((λ e. omega (arith, e)), tt)))))

pub opens_more : (version : Version) (body text more : List ℕ) → HasFirstLine text → Opens version body text → Opens version (body ++ more) (text ++ more)
opens_more One body text more first opens = (
  ap (λ (t : List ℕ). t ++ more) opens.0,
  λ rest e. opens.1 first.behind
      (let whole : first.line ++ 10 ∷ (first.behind ++ more) ≡ codes "amo 2" ++ 10 ∷ rest =
      sym (append_assoc first.line (10 ∷ first.behind) more) ∙ ap (λ (t : List ℕ). t ++ more) (sym first.cut) ∙ e ∙ append_assoc (codes "amo 2") (10 ∷ []) rest in
      let cut = one_cut 10 first.line (first.behind ++ more) (codes "amo 2") rest first.one no_end whole in
      first.cut ∙ ap (λ (t : List ℕ). t ++ 10 ∷ first.behind) cut.0 ∙ sym (append_assoc (codes "amo 2") (10 ∷ []) first.behind)),
)
opens_more Two body text more first opens = ap (λ (t : List ℕ). t ++ more) opens ∙ append_assoc (heading Two) body more

-- what is kept of the end of a text
pub end_kept : (text front rest : List ℕ) → text ≡ front ++ rest → drop (length text - length rest) text ≡ rest
end_kept text front rest is =
    let long = ap length is ∙ length-append front rest in
    let same : length text - length rest ≡ length front = omega arith in
    ap (λ n. drop n text) same ∙ ap (drop (length front)) is ∙ drop-append_seam front rest

pub Lacks-behind : (front rest : List ℕ) → Lacks 10 (front ++ rest) → Lacks 10 rest
Lacks-behind [] rest lacks = lacks
Lacks-behind (b ∷ front) rest lacks = Lacks-behind front rest lacks.1

-- more bytes have come
pub whole_now : (text bytes : List ℕ) → bytes ≢ [] → IsWhole bytes ↔ IsWhole (text ++ bytes)
whole_now text bytes some = (forth, whole_tail text bytes)
  where
    forth : IsWhole bytes → IsWhole (text ++ bytes)
    forth (inl none) = absurd (some none)
    forth (inr (front, e)) = inr (text ++ front, ap (λ (t : List ℕ). text ++ t) e ∙ sym (append_assoc text front (10 ∷ [])))

module _ (judged : JudgedLines) where
  pub may_be : (version : Option Version) (rest text more : List ℕ) → judged.is_malformed ≡ false → IsOpened judged version rest text → MayBeJudged judged version (rest ++ more) (text ++ more)
  may_be None rest text more good (is, lacks, _, all) = (ap (λ (t : List ℕ). t ++ more) is, all)
  may_be (Some v) rest text more good (first, (body, opens, to)) =
      let so_far = subst (λ (b : Bool). IsJudgedTo judged b v body rest) good to in
      (body ++ more, opens_more v body text more first opens, more_behind judged v body rest more so_far.0)

  pub first_of : (version : Option Version) (rest text bytes line behind : List ℕ) → IsOpened judged version rest text → bytes ≡ line ++ 10 ∷ behind → Lacks 10 line → HasFirstLine (text ++ bytes)
  first_of None rest text bytes line behind (is, lacks, _, all) cut one = first_comes text bytes line behind lacks cut one
  first_of (Some v) rest text bytes line behind (first, _) cut one = first_stays text bytes first

  pub waits : (version : Option Version) (rest text more : List ℕ) → judged.is_malformed ≡ false → Lacks 10 more → IsOpened judged version rest text → IsOpened judged version (rest ++ more) (text ++ more)
  waits None rest text more good none (is, lacks, same, all) = (ap (λ (t : List ℕ). t ++ more) is, Lacks-append 10 text more lacks none, same, all)
  waits (Some v) rest text more good none (first, (body, opens, to)) =
      let so_far = subst (λ (b : Bool). IsJudgedTo judged b v body rest) good to in (
        first_stays text more first,
        (
          body ++ more,
          opens_more v body text more first opens,
          subst (λ (b : Bool). IsJudgedTo judged b v (body ++ more) (rest ++ more)) (sym good) (more_behind judged v body rest more so_far.0, Lacks-append 10 rest more so_far.1 none),
        ),
      )

  pub stays_stuck : (version : Option Version) (rest text more : List ℕ) → judged.is_malformed ≡ true → IsOpened judged version rest text → IsOpened judged version rest (text ++ more)
  stays_stuck None rest text more stuck (is, lacks, good, all) = absurd (differ (sym stuck ∙ good))
    where
      differ : true ≡ false → ⊥
      differ e = cc
  stays_stuck (Some v) rest text more stuck (first, (body, opens, to)) =
      let before = subst (λ (b : Bool). IsJudgedTo judged b v body rest) stuck to in (
        first_stays text more first,
        (
          body ++ more,
          opens_more v body text more first opens,
          subst (λ (b : Bool). IsJudgedTo judged b v (body ++ more) rest) (sym stuck) (stuck_before v body more judged.lines before),
        ),
      )

  -- the lines in what is left
  pub stands : (version : Option Version) (rest text : List ℕ) (lines : Lines) → IsOpened judged version rest text → AreLinesIn version rest lines
      → (body : List ℕ) × Opens lines.version body text × IsJudgedTo judged judged.is_malformed lines.version body lines.text.now
  stands None rest text lines (is, lacks, good, all) opens =
      let whole = subst (Opens lines.version lines.text.now) is opens in
      let none = Lacks-behind (heading lines.version) lines.text.now (subst (Lacks 10) (opened lines.version lines.text.now text whole) lacks) in
      (lines.text.now, whole, subst (λ (b : Bool). IsJudgedTo judged b lines.version lines.text.now lines.text.now) (sym good) (all lines.version lines.text.now, none))
  stands (Some v) rest text lines (first, (body, opens, to)) (version, same) = (
    body,
    subst (λ (w : Version). Opens w body text) (sym version) opens,
    subst (λ (w : Version). IsJudgedTo judged judged.is_malformed w body lines.text.now) (sym version) (subst (IsJudgedTo judged judged.is_malformed v body) (sym same) to),
  )

-- and they are the end of it
pub end_of_lines : (version : Option Version) (rest front left : List ℕ) (lines : Lines) → AreLinesIn version rest lines → lines.text.now ≡ front ++ left → (whole : List ℕ) × (rest ≡ whole ++ left)
end_of_lines None rest front left lines opens is =
    (heading lines.version ++ front, opened lines.version lines.text.now rest opens ∙ ap (λ (t : List ℕ). heading lines.version ++ t) is ∙ sym (append_assoc (heading lines.version) front left))
end_of_lines (Some v) rest front left lines (version, same) is = (front, sym same ∙ is)

-- the lines that have come whole were judged
pub now_judged : (old now : JudgedLines) (version : Option Version) (rest text kept left : List ℕ) (lines : Lines) → HasFirstLine text → MayBeJudged old version rest text → AreLinesIn version rest lines
    → ((body : List ℕ) → HasJudged old lines.version body lines.text.now → IsJudgedTo now now.is_malformed lines.version body left) → kept ≡ left → IsOpened now (Some lines.version) kept text
now_judged old now None rest text kept left lines first (is, all) opens judges same = (
  first,
  (
    lines.text.now,
    subst (Opens lines.version lines.text.now) is opens,
    subst (IsJudgedTo now now.is_malformed lines.version lines.text.now) (sym same) (judges lines.text.now (all lines.version lines.text.now)),
  ),
)
now_judged old now (Some v) rest text kept left lines first (body, opens, so_far) (version, is) judges same = (
  first,
  (
    body,
    subst (λ (w : Version). Opens w body text) (sym version) opens,
    subst (IsJudgedTo now now.is_malformed lines.version body) (sym same)
        (judges body (subst (λ (w : Version). HasJudged old w body lines.text.now) (sym version) (subst (HasJudged old v body) (sym is) so_far))),
  ),
)

pub whole_come : (is_whole : Bool) (text bytes : List ℕ) → bytes ≢ [] → (IsTrue is_whole ↔ IsWhole bytes) → IsTrue is_whole ↔ IsWhole (text ++ bytes)
whole_come is_whole text bytes some tells = let same = whole_now text bytes some in ((λ is. same.0 (tells.0 is)), λ whole. tells.1 (same.1 whole))
