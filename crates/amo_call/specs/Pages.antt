-- What the answers of a door tell of its journal.
use Rattle.std.specs.Prelude.{◌≡◌, ◌≢◌, ℕ, ◌+◌, ◌-◌, ◌<◌, ◌^◌, min, Bool, Option, None, Some, List, ◌∷◌, ◌++◌, codes}
use Rattle.std.specs.Fmt.{decimal}
use Rattle.amo_door.specs.declared.answer.GotMessage.{GotMessage}
use Rattle.amo_door.specs.Answer.{got_front, got_message, line_value, more_end}
use Rattle.amo_text.specs.Line.{Lacks}
use Rattle.amo_call.specs.declared.answer.Response.{Response}
use Rattle.amo_call.specs.declared.pages.Page.{Page}
use Rattle.amo_call.specs.declared.pages.PageLines.{PageLines}

-- the number behind another one; the last one of 64 bits has none
abbrev pub number_behind : ℕ → ℕ
number_behind number = min (number + 1) (2 ^ 64 - 1)

-- the name of the measure of the number of a journal's next line, with the space behind it
abbrev pub next_line_name : List ℕ
next_line_name = codes "amo_journal_next_line "

-- the first line of a text with that measure has this number; lines of other measures may stand in front of it
pub data MeasuresNext (line : ℕ) : List ℕ → Type 0 where
  IsHere : (text rest : List ℕ) → text ≡ next_line_name ++ (decimal line ++ 10 ∷ rest) → MeasuresNext line text
  IsBehind : (text other rest : List ℕ) → text ≡ other ++ 10 ∷ rest → Lacks 10 other → ((value : List ℕ) → other ≢ next_line_name ++ value)
      → MeasuresNext line rest → MeasuresNext line text

-- the host counted, and this is the number of its journal's next line
pub record TellsNextLine (line : ℕ) (response : Response) : Type 0 where
  pub status : response.status ≡ 200
  pub fits : line < 2 ^ 64
  pub body : MeasuresNext line response.body.items

-- what a page of a stream begins with, up to its first message, or the end of its messages where it has none
abbrev pub page_front : ℕ → Option GotMessage → List ℕ
page_front stream None = got_front stream ++ codes "]"
page_front stream (Some got) = got_front stream ++ got_message got

-- what a page ends with: the first and the last of the lines that were read, and whether there are more
abbrev pub page_end : Option ℕ → Option ℕ → Bool → List ℕ
page_end first last more = codes "],\"from\":" ++ line_value first ++ codes ",\"next\":" ++ line_value last ++ more_end more

-- the first of the lines that were read, where one is named; else the one that was asked for
abbrev pub first_line : Option ℕ → ℕ → ℕ
first_line (Some line) from = line
first_line None from = from

-- the line behind the last one that was read, where one is named; else the one that was asked for
abbrev pub line_behind : Option ℕ → ℕ → ℕ
line_behind (Some line) from = number_behind line
line_behind None from = from

-- the end of a page names these lines, to who asked from this one on
pub record TellsLines (from : ℕ) (lines : PageLines) (text : List ℕ) : Type 0 where
  pub front : List ℕ
  pub first : Option ℕ
  pub last : Option ℕ
  pub ends : text ≡ front ++ page_end first last lines.more
  pub from_is : lines.from ≡ first_line first from
  pub behind_is : lines.behind ≡ line_behind last from

-- A page of what was got of a stream, to who asked from this line on: its first message, and which lines it tells of.
pub record TellsPage (stream from : ℕ) (page : Page) (response : Response) : Type 0 where
  pub status : response.status ≡ 200
  pub rest : List ℕ
  pub begins : response.body.items ≡ page_front stream page.first ++ rest
  pub ends : TellsLines from page.lines response.body.items
