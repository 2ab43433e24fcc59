-- What a whole file tells, or what is wrong with it.
use Rattle.std.proofs.Common.{◌≡◌, ◌≢◌, ℕ, ◌+◌, List, [], ◌∷◌, ◌++◌, length, sym, ◌∙◌, ap, subst, append_assoc}
use Rattle.std.specs.List.{flat_map}
use Rattle.amo_object.specs.declared.step.End.{End}
use Rattle.amo_text.specs.Line.{Lacks, text_of}
use Rattle.amo_text.proofs.Lines.{first_line}
use Rattle.amo_lives.specs.declared.fault.LivesFault.{LivesFault}
use Rattle.amo_lives.specs.declared.fault.LivesFault.TheVariants.{NoMemory, NoHeading, Foreign, OtherSide, Malformed, SameTag, Falls}
use Rattle.amo_lives.specs.declared.life.Life.{Life}
use Rattle.amo_lives.specs.Fault.{AtLine, Faults, HasTagAgain, IsBehind, IsForeign, IsNoLife, IsOfOther}
use Rattle.amo_lives.specs.Kept.{GoesOn, StopsAt, TakesAll}
use Rattle.amo_lives.specs.Life.{IsKey, heading, heading_fields, line_text}
use Rattle.amo_lives.specs.Lives.{LivesState, Tells, text_of_lives}
use Rattle.amo_lives.proofs.Fields.{IsLine-heading}
use Rattle.amo_lives.proofs.Begun.{no_end}

-- the first line is no heading
pub foreign : (side : End) (bytes text body : List ℕ) → bytes ≡ text ++ 10 ∷ body → Lacks 10 text → ((of : End) (key : List ℕ) → IsKey key → text ≢ text_of (heading_fields of key)) → IsForeign side bytes
foreign side bytes text body cut lacks none = record {
  none = λ of key more known e. none of key known (sym (first_line (heading_fields of key) more text body (IsLine-heading of key known).1 lacks (sym e ∙ cut)).0);
  not_begun = λ begun. no_end side begun.key text body begun.more begun.key_is (begun.parts ∙ ap (λ (t : List ℕ). t ++ begun.more) cut);
}

module _ (side : End) (key bytes text body : List ℕ) (known : IsKey key) (cut : bytes ≡ text ++ 10 ∷ body) (same : text ≡ text_of (heading_fields side key)) where
  begins : bytes ≡ heading side key ++ body
  begins = cut ∙ ap (λ (t : List ℕ). t ++ 10 ∷ body) same ∙ sym (append_assoc (text_of (heading_fields side key)) (10 ∷ []) body)

  -- the first line is the heading of the other side
  pub of_other : (wanted : End) → side ≢ wanted → IsOfOther wanted bytes
  of_other wanted other = record { of = side; key = key; more = body; key_is = known; other = other; parts = begins }

  abbrev none_yet : LivesState
  none_yet = record { side = side; key = key; lives = [] }

  lines_before : (so_far : LivesState) (rest : List ℕ) → (on : GoesOn none_yet so_far body rest) → bytes ≡ text_of_lives (record { side = side; key = key; lives = on.more }) ++ rest
  lines_before so_far rest on =
      begins ∙ ap (λ (t : List ℕ). heading side key ++ t) on.parts ∙ sym (append_assoc (heading side key) (flat_map line_text on.more) rest)

  -- all lines were taken
  pub told : (end : LivesState) (count : ℕ) → TakesAll none_yet end body count → Tells end bytes
  told end count all =
      let on = all.goes_on in
      subst (λ (s : LivesState). Tells s bytes) (sym on.grown) (record {
        torn = all.torn;
        key = known;
        lives = record { in_range = on.in_range; in_order = on.in_order };
        parts = lines_before end all.torn on;
        endless = all.endless;
      })

  -- a line is wrong
  at_line : (Holds : List Life → List ℕ → Type 0) (so_far : LivesState) (rest : List ℕ) (line : ℕ) → GoesOn none_yet so_far body rest → Holds so_far.lives rest → line ≡ length so_far.lives + 2 → AtLine Holds side bytes line
  at_line Holds so_far rest line on holds count =
      let lives : so_far.lives ≡ on.more = ap (λ (s : LivesState). s.lives) on.grown in record {
        key = key;
        lives = on.more;
        rest = rest;
        key_is = known;
        before = record { in_range = on.in_range; in_order = on.in_order };
        parts = lines_before so_far rest on;
        holds = subst (λ (ls : List Life). Holds ls rest) lives holds;
        line_is = count ∙ ap (λ (ls : List Life). length ls + 2) lives;
      }

  pub stopped : (fault : LivesFault) → StopsAt none_yet body fault → Faults side bytes fault
  stopped NoMemory stops = tt
  stopped NoHeading stops = absurd stops.wrong
  stopped Foreign stops = absurd stops.wrong
  stopped OtherSide stops = absurd stops.wrong
  stopped (Malformed line) stops = at_line IsNoLife stops.so_far stops.rest line stops.goes_on stops.wrong.0 stops.wrong.1
  stopped (SameTag line) stops = at_line HasTagAgain stops.so_far stops.rest line stops.goes_on stops.wrong.0 stops.wrong.1
  stopped (Falls line) stops = at_line IsBehind stops.so_far stops.rest line stops.goes_on stops.wrong.0 stops.wrong.1
