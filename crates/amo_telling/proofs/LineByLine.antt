-- The lines of a journal, told of one by one. Those that put nothing are not read.
use Rattle.std.proofs.Common.{◌≡◌, ◌∙◌, ℕ, ◌+◌, ◌≤◌, ◌<◌, ◌⊎◌, true, false, Option, None, Some, List, [], ◌∷◌, ◌++◌, length, length-append, take, refl, sym, ap, subst, arith, append_assoc, inl, inr, codes}
use Rattle.std.specs.Prelude.{◌==◌}
use Rattle.std.specs.Fmt.{decimal}
use Rattle.std.specs.List.{flat_map}
use Rattle.std.proofs.lemmas.Bool.{eqb-true}
use Rattle.std.proofs.lemmas.List.{append-nil, take_all}
use Rattle.std.proofs.Math.Seq.{take-append_seam}
use Rattle.amo_core.specs.declared.act.Act.{Act}
use Rattle.amo_core.specs.declared.act.Act.TheVariants as act
use Rattle.amo_text.specs.Hexadecimal.{hex}
use Rattle.amo_text.specs.Line.{Lacks, text_of}
use Rattle.amo_text.specs.Reply.{reply_fields}
use Rattle.amo_text.specs.Side.{letter_of}
use Rattle.amo_text.proofs.Cuts.{no_cut, one_cut}
use Rattle.amo_text.proofs.Lines.{Lacks-text_of}
use Rattle.amo_world.specs.declared.event.Event.{Event}
use Rattle.amo_journal.specs.declared.numbered.Numbered.{Numbered}
use Rattle.amo_journal.specs.declared.version.Version.{Version}
use Rattle.amo_journal.specs.Journal.{AreEvents, SpellsLines, act_fields, fields_of, line_text, numbered}
use Rattle.amo_journal.proofs.Fields.{IsLine-fields_of}
use Rattle.amo_journal.proofs.Unambiguous.{same_text}
use Rattle.amo_telling.specs.declared.listing.Listing.{Listing}
use Rattle.amo_telling.specs.Outcomes.{Manner, is_put}
use Rattle.amo_telling.specs.Told.{HasTold, IsLineOf, StandsBehind, end_of, front_of, told_text}

-- the line of an event
abbrev line_at : ℕ → Event → Numbered
line_at number e = record { number = number; event = e }

-- in the line of a put its act stands behind four fields
put_stands : (version : Version) (number : ℕ) (e : Event) (text m : List ℕ) → IsLineOf version number e text → e.act ≡ act.Put m → (rest : List ℕ) × StandsBehind text (codes "put " ++ rest)
put_stands version number e text m line put =
    let fields = (IsLine-fields_of version (line_at number e) line.0).1 in (
      text_of (hex m ∷ reply_fields e.reply),
      (
        decimal number,
        decimal e.pass,
        letter_of e.side,
        decimal e.stream,
        fields.0.0,
        fields.1.0.0,
        fields.1.1.0.0,
        fields.1.1.1.0.0,
        line.1 ∙ ap (λ (a : Act). text_of (decimal number ∷ decimal e.pass ∷ letter_of e.side ∷ decimal e.stream ∷ act_fields a ++ reply_fields e.reply)) put,
      ),
    )

-- so a line in which none stands there puts nothing
pub puts_nothing : (version : Version) (number : ℕ) (e : Event) (text : List ℕ) → IsLineOf version number e text → ((rest : List ℕ) → ¬ (StandsBehind text (codes "put " ++ rest))) → is_put e.act e.reply ≡ false
puts_nothing version number e text line none = by e.act refl
  where
    by : (a : Act) → e.act ≡ a → is_put a e.reply ≡ false
    by (act.Put m) is = let found = put_stands version number e text m line is in absurd (none found.0 found.1)
    by act.Get is = refl
    by act.Ack is = refl
    by (act.Start word) is = refl
    by (act.Batch word) is = refl
    by act.Resend is = refl
    by (act.Deliver packet word) is = refl
    by act.Crash is = refl
    by act.Recover is = refl

-- what stands behind a first field
pub behind_field : (text a rest b other : List ℕ) → text ≡ a ++ 32 ∷ rest → Lacks 32 a → Lacks 32 b → text ≡ b ++ 32 ∷ other → rest ≡ other
behind_field text a rest b other is lacks lacks' other_is = (one_cut 32 a rest b other lacks lacks' (sym is ∙ other_is)).1

-- a text is that of one event
pub same_event : (version : Version) (number : ℕ) (e : Event) (text : List ℕ) (read : Numbered) → IsLineOf version number e text → IsLineOf version read.number read.event text → read.event ≡ e
same_event version number e text read line other = ap (λ (l : Numbered). l.event) (same_text version read (line_at number e) other.0 line.0 (sym other.1 ∙ line.1))

-- the first line, where there is one
first_line : (version : Version) (number : ℕ) (after : List Event) (rest line more : List ℕ) → SpellsLines version rest (numbered number after) → rest ≡ line ++ 10 ∷ more → Lacks 10 line
    → (e : Event) × (others : List Event) × (after ≡ e ∷ others) × IsLineOf version number e line × SpellsLines version more (numbered (number + 1) others)
first_line version number [] rest line more spells is lacks = absurd (no_cut 10 [] line more tt (sym spells.1 ∙ is))
first_line version number (e ∷ others) rest line more spells is lacks =
    let text = text_of (fields_of (line_at number e)) in
    let behind = flat_map line_text (numbered (number + 1) others) in
    let ends = Lacks-text_of (fields_of (line_at number e)) (IsLine-fields_of version (line_at number e) spells.0.0).1 in
    let cut = one_cut 10 line more text behind lacks ends (sym is ∙ spells.1 ∙ append_assoc text (10 ∷ []) behind) in
    (e, others, refl, (spells.0.0, cut.0), (spells.0.1, cut.1))

no_lines : (version : Version) (number : ℕ) (after : List Event) (rest : List ℕ) → SpellsLines version rest (numbered number after) → rest ≡ [] → after ≡ []
no_lines version number [] rest spells none = refl
no_lines version number (e ∷ others) rest spells none =
    let text = text_of (fields_of (line_at number e)) in
    let behind = flat_map line_text (numbered (number + 1) others) in
    absurd (no_cut 10 [] text behind tt (sym none ∙ spells.1 ∙ append_assoc text (10 ∷ []) behind))

pub empty_is : (xs : List ℕ) → (length xs == 0) ≡ true → xs ≡ []
empty_is [] e = refl
empty_is (x ∷ xs) e = let none = eqb-true (length (x ∷ xs)) 0 e in absurd (omega (arith, none))

-- where lines are left one has its end
some_line : (version : Version) (number : ℕ) (after : List Event) (rest : List ℕ) → SpellsLines version rest (numbered number after) → Lacks 10 rest → rest ≡ []
some_line version number [] rest spells lacks = spells.1
some_line version number (e ∷ others) rest spells lacks =
    let text = text_of (fields_of (line_at number e)) in
    let behind = flat_map line_text (numbered (number + 1) others) in
    absurd (no_cut 10 rest text behind lacks (spells.1 ∙ append_assoc text (10 ∷ []) behind))

-- the first lines of a journal were told of, and these are left
pub record IsToldTo (manner : Manner) (listing : Listing) (version : Version) (text rest : List ℕ) (number end : ℕ) (counts told : List ℕ) : Type 0 where
  pub before : List Event
  pub after : List Event
  pub whole : AreEvents version (before ++ after) text
  pub left : SpellsLines version rest (numbered number after)
  pub many : number ≡ length before
  pub within : number ≤ end
  pub few : number + length rest ≤ length text
  pub so_far : HasTold manner listing counts told before

module _ (manner : Manner) (listing : Listing) (version : Version) (text : List ℕ) (end : ℕ) where
  pub begins : (events : List Event) (counts told : List ℕ) → AreEvents version events text → HasTold manner listing counts told [] → IsToldTo manner listing version text text 0 end counts told
  begins events counts told are none = record { before = []; after = events; whole = are; left = are; many = refl; within = omega arith; few = omega arith; so_far = none }

  module _ (rest : List ℕ) (number : ℕ) (counts told : List ℕ) (to : IsToldTo manner listing version text rest number end counts told) where
    pub line_there : (line more : List ℕ) → rest ≡ line ++ 10 ∷ more → Lacks 10 line → (event : Event) × IsLineOf version number event line
    line_there line more is lacks = let first = first_line version number to.after rest line more to.left is lacks in (first.0, first.3)

    pub one_line_told : (line more counts' told' : List ℕ) → rest ≡ line ++ 10 ∷ more → Lacks 10 line → number < end
        → ((event : Event) → IsLineOf version number event line → (past : List Event) → number ≡ length past → HasTold manner listing counts told past → HasTold manner listing counts' told' (past ++ event ∷ []))
        → IsToldTo manner listing version text more (number + 1) end counts' told'
    one_line_told line more counts' told' is lacks less tells =
        let first = first_line version number to.after rest line more to.left is lacks in
        let e = first.0 in
        let others = first.1 in
        let long = ap length is ∙ length-append line (10 ∷ more) in
        record {
          before = to.before ++ e ∷ [];
          after = others;
          whole = subst (λ (es : List Event). AreEvents version es text) (ap (λ (es : List Event). to.before ++ es) first.2 ∙ sym (append_assoc to.before (e ∷ []) others)) to.whole;
          left = first.4;
          many = ap (λ n. n + 1) to.many ∙ sym (length-append to.before (e ∷ []));
          within = omega (arith, less);
          few = omega (arith, long, to.few);
          so_far = tells e first.3 to.before to.many to.so_far;
        }

    pub none_left : Lacks 10 rest → rest ≡ []
    none_left lacks = some_line version number to.after rest to.left lacks

    none_after : rest ≡ [] → to.before ++ to.after ≡ to.before
    none_after none = ap (λ (es : List Event). to.before ++ es) (no_lines version number to.after rest to.left none) ∙ append-nil to.before

    front_is : (ends : Option ℕ) → end ≡ end_of ends version → length text < 18446744073709551615 → (number ≡ end) ⊎ (rest ≡ []) → front_of ends version (to.before ++ to.after) ≡ to.before
    front_is None is short (inl all) = absurd (omega (arith, all, is, short, to.few))
    front_is None is short (inr none) = none_after none
    front_is (Some line) is short (inl all) = ap (λ n. take n (to.before ++ to.after)) (sym is ∙ sym all ∙ to.many) ∙ take-append_seam to.before to.after
    front_is (Some line) is short (inr none) = ap (λ (es : List Event). take (end_of (Some line) version) es) (none_after none) ∙ take_all (end_of (Some line) version) to.before (omega (arith, is, to.many, to.within))

    pub all_told : (ends : Option ℕ) → end ≡ end_of ends version → length text < 18446744073709551615 → (number ≡ end) ⊎ (rest ≡ [])
        → (events : List Event) × AreEvents version events text × (told ≡ told_text manner listing [] (front_of ends version events))
    all_told ends is short stops = (
      to.before ++ to.after,
      to.whole,
      to.so_far.written ∙ ap (λ (es : List Event). told_text manner listing [] es) (sym (front_is ends is short stops)),
    )
