-- How far bytes were read.
use Rattle.std.proofs.Common.{◌≡◌, ◌≢◌, ℕ, ◌+◌, ◌≤◌, List, [], ◌∷◌, ◌++◌, length, length-append, refl, sym, ◌∙◌, ap, arith}
use Rattle.amo_text.proofs.Readings.{IsReadTo}
use Rattle.amo_text.proofs.Readings as readings
use Rattle.amo_journal.specs.declared.numbered.Numbered.{Numbered}
use Rattle.amo_journal.specs.declared.version.Version.{Version}
use Rattle.amo_journal.specs.Journal.{InRange, fields_of, line_text, SpellsLines, HasMalformed}
use Rattle.amo_journal.proofs.Fields.{IsLine-fields_of}

-- so many lines were read, of which this holds
pub record HasRead (version : Version) (bytes rest : List ℕ) (count : ℕ) (Holds : List Numbered → Type 0) : Type 0 where
  pub lines : List Numbered
  pub read : IsReadTo fields_of (InRange version) bytes lines rest
  pub counted : count ≡ length lines
  pub holds : Holds lines
  pub few : count + length rest ≤ length bytes

pub nothing_read : (version : Version) (bytes : List ℕ) (Holds : List Numbered → Type 0) → Holds [] → HasRead version bytes bytes 0 Holds
nothing_read version bytes Holds first = record { lines = []; read = (tt, refl); counted = refl; holds = first; few = omega arith }

-- here is the first malformed line
pub malformed_here : (version : Version) (bytes rest : List ℕ) (count : ℕ) (Holds : List Numbered → Type 0) → HasRead version bytes rest count Holds → rest ≢ []
    → ((line : Numbered) (more : List ℕ) → InRange version line → rest ≢ line_text line ++ more) → HasMalformed version bytes (count + 1)
malformed_here version bytes rest count Holds so_far some none =
    readings.malformed_after fields_of (InRange version) (IsLine-fields_of version) bytes rest count (so_far.lines, so_far.read, so_far.counted) some none

-- one line more
pub read_on : (version : Version) (bytes rest more : List ℕ) (count count' : ℕ) (Holds Holds' : List Numbered → Type 0) (line : Numbered) → HasRead version bytes rest count Holds → InRange version line → rest ≡ line_text line ++ more
    → count' ≡ count + 1 → ((lines : List Numbered) → Holds lines → Holds' (lines ++ line ∷ [])) → HasRead version bytes more count' Holds'
read_on version bytes rest more count count' Holds Holds' line so_far known here next takes =
    let short = readings.shorter_behind fields_of (InRange version) (IsLine-fields_of version) line rest more here in
    record {
      lines = so_far.lines ++ line ∷ [];
      read = readings.read_on fields_of (InRange version) (IsLine-fields_of version) bytes rest more so_far.lines line so_far.read known here;
      counted = next ∙ ap (λ n. n + 1) so_far.counted ∙ sym (length-append so_far.lines (line ∷ []));
      holds = takes so_far.lines so_far.holds;
      few = omega (arith, so_far.few, short, next);
    }

-- all was read
pub all_read : (version : Version) (bytes rest : List ℕ) (count : ℕ) (Holds : List Numbered → Type 0) → (so_far : HasRead version bytes rest count Holds) → rest ≡ [] → SpellsLines version bytes so_far.lines
all_read version bytes rest count Holds so_far empty = readings.all_read fields_of (InRange version) (IsLine-fields_of version) bytes rest so_far.lines so_far.read empty
