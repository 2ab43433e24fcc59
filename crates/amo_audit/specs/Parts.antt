-- A journal that is judged while its bytes come, part by part.
use Rattle.std.specs.Prelude.{◌≡◌, ◌≢◌, ◌↔◌, ℕ, ◌+◌, ◌<◌, ◌^◌, Bool, true, false, Option, None, Some, List, ◌∷◌, ◌++◌, length, IsTrue}
use Rattle.std.specs.List.{AllByRecursion, flat_map}
use Rattle.amo_text.specs.Line.{Lacks, text_of}
use Rattle.amo_journal.specs.declared.lines.Lines.{Lines}
use Rattle.amo_journal.specs.declared.numbered.Numbered.{Numbered}
use Rattle.amo_journal.specs.declared.version.Version.{Version}
use Rattle.amo_journal.specs.Version.{Opens}
use Rattle.amo_journal.specs.Gathering.{Gathers}
use Rattle.amo_journal.specs.Journal.{fields_of, line_text, InRange}
use Rattle.amo_pieces.specs.Journal.{IsWhole}
use Rattle.amo_audit.specs.declared.judged_lines.JudgedLines.{JudgedLines}
use Rattle.amo_audit.specs.declared.text_audit.TextAudit.{TextAudit}
use Rattle.amo_audit.specs.declared.verdict.Verdict.{Verdict}
use Rattle.amo_audit.specs.Audit.{Finds, JudgesLines}

-- so many lines were read, and the events in front of the first gap were judged
abbrev pub GathersIn : JudgedLines → List Numbered → Type 0
GathersIn judged lines = Gathers (λ auditor past. Finds auditor.world auditor.finding past) judged.auditor judged.lines judged.gap lines

-- lines that were judged stand in front of what is left of a body
pub record HasJudged (judged : JudgedLines) (version : Version) (body rest : List ℕ) : Type 0 where
  pub lines : List Numbered
  pub known : AllByRecursion (InRange version) lines
  pub whole : body ≡ flat_map line_text lines ++ rest
  pub gathers : GathersIn judged lines
  pub few : judged.lines + 2 < 2 ^ 64

-- behind so many lines of a body stands one that is whole, and of no event
pub record IsStuckBehind (version : Version) (body : List ℕ) (count : ℕ) : Type 0 where
  pub lines : List Numbered
  pub text : List ℕ
  pub behind : List ℕ
  pub known : AllByRecursion (InRange version) lines
  pub whole : body ≡ flat_map line_text lines ++ (text ++ 10 ∷ behind)
  pub one : Lacks 10 text
  pub none : (line : Numbered) → InRange version line → text ≢ text_of (fields_of line)
  pub counted : count ≡ length lines
  pub few : count + 2 < 2 ^ 64

-- the whole lines of a body were judged, and this is left; or one is malformed, behind which nothing is read
abbrev pub IsJudgedTo : JudgedLines → Bool → Version → List ℕ → List ℕ → Type 0
IsJudgedTo judged false version body rest = HasJudged judged version body rest × Lacks 10 rest
IsJudgedTo judged true version body rest = IsStuckBehind version body judged.lines

-- a body, as lines
abbrev pub lines_of : Version → List ℕ → Lines
lines_of version body = record { version = version; text = record { ref_ptr = (0, 0); now = body } }

-- what a verdict says of a body, the lines of which it counts from 1
abbrev pub JudgesBody : Version → List ℕ → Verdict → Type 0
JudgesBody version body v = JudgesLines (lines_of version body) v

-- a text has a first line with its end
pub record HasFirstLine (text : List ℕ) : Type 0 where
  pub line : List ℕ
  pub behind : List ℕ
  pub cut : text ≡ line ++ 10 ∷ behind
  pub one : Lacks 10 line

-- the version of a text is known, and the lines behind its heading were judged to where this is left; or its first line has not come whole
abbrev pub IsOpened : JudgedLines → Option Version → List ℕ → List ℕ → Type 0
IsOpened judged None rest text =
    (rest ≡ text) × Lacks 10 text × (judged.is_malformed ≡ false) × ((version : Version) (body : List ℕ) → HasJudged judged version body body)
IsOpened judged (Some version) rest text =
    HasFirstLine text × ((body : List ℕ) × Opens version body text × IsJudgedTo judged judged.is_malformed version body rest)

-- the same where the lines that have come whole since are to be judged, and none is malformed
abbrev pub MayBeJudged : JudgedLines → Option Version → List ℕ → List ℕ → Type 0
MayBeJudged judged None rest text = (rest ≡ text) × ((version : Version) (body : List ℕ) → HasJudged judged version body body)
MayBeJudged judged (Some version) rest text = (body : List ℕ) × Opens version body text × HasJudged judged version body rest

-- the lines of events in a text, or in what is left of one where its version is known
abbrev pub AreLinesIn : Option Version → List ℕ → Lines → Type 0
AreLinesIn None text lines = Opens lines.version lines.text.now text
AreLinesIn (Some version) text lines = (lines.version ≡ version) × (lines.text.now ≡ text)

-- this text has come
pub record HasCome (audit : TextAudit) (text : List ℕ) : Type 0 where
  pub opened : IsOpened audit.judged audit.version audit.rest.items text
  pub whole : IsTrue audit.is_whole ↔ IsWhole text
