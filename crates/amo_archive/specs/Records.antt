-- What lines of a journal tell, which stand in a row.
use Rattle.std.specs.Prelude.{◌≡◌, ℕ, ◌+◌, ◌-◌, ◌^◌, ◌==◌, Bool, true, nat_lt, min, if◌then◌else◌, Option, Some, None, List, [], ◌∷◌, ◌++◌}
use Rattle.std.specs.List.{AllByRecursion}
use Rattle.amo_core.specs.declared.act.Act.{Act}
use Rattle.amo_core.specs.declared.act.Act.TheVariants as act
use Rattle.amo_core.specs.declared.reply.Reply.{Reply}
use Rattle.amo_core.specs.declared.reply.Reply.TheVariants as reply
use Rattle.amo_journal.specs.declared.numbered.Numbered.{Numbered}
use Rattle.amo_journal.specs.declared.version.Version.{Version}
use Rattle.amo_journal.specs.Journal.{InRange, line_text}
use Rattle.amo_door.specs.declared.answer.GotMessage.{GotMessage}
use Rattle.amo_door.specs.declared.answer.GotPage.{GotPage}

-- a line of this number follows on the last one, if there is one
abbrev pub Follows : Option ℕ → ℕ → Type 0
Follows None number = Unit {0}
Follows (Some last) number = number ≡ last + 1

-- a line of this number is the journal's first, where there is no last one
abbrev pub IsFirstOrBehind : Option ℕ → ℕ → Type 0
IsFirstOrBehind None number = number ≡ 0
IsFirstOrBehind (Some last) number = Unit {0}

-- the number of the newest of lines, which is the first of the list
abbrev pub newest_number : List Numbered → Option ℕ
newest_number [] = None
newest_number (line ∷ past) = Some line.number

-- the number of the line behind them
abbrev pub next_number : List Numbered → ℕ
next_number [] = 0
next_number (line ∷ past) = min (line.number + 1) (2 ^ 64 - 1)

-- each of these lines follows on the one before it
abbrev pub AreInRow : List Numbered → Type 0
AreInRow [] = Unit {0}
AreInRow (line ∷ past) = Follows (newest_number past) line.number × AreInRow past

-- none is missing in front of them: the first one is the journal's
abbrev pub AreFromFirst : List Numbered → Type 0
AreFromFirst [] = Unit {0}
AreFromFirst (line ∷ past) = IsFirstOrBehind (newest_number past) line.number × AreFromFirst past

-- what they spell
abbrev pub spelt_by : List Numbered → List ℕ
spelt_by [] = []
spelt_by (line ∷ past) = spelt_by past ++ line_text line

-- a text begins with these lines, and this is left behind them
pub record BeginsWith (version : Version) (past : List Numbered) (rest text : List ℕ) : Type 0 where
  pub lines : AllByRecursion (InRange version) past
  pub row : AreInRow past
  pub spelt : text ≡ spelt_by past ++ rest

-- whether a number is behind this one, if there is one
abbrev pub behind : Option ℕ → ℕ → Bool
behind None number = true
behind (Some after) number = nat_lt after number

-- the message that a reply to an act says was got
abbrev pub got_in : ℕ → Act → Reply → List GotMessage
got_in number act.Get (reply.Got m) = record { line = number; message = m } ∷ []
got_in number _ _ = []

-- the message that a line says was got of a stream
abbrev pub got_at : ℕ → Numbered → List GotMessage
got_at stream line = if line.event.stream == stream then got_in line.number line.event.act line.event.reply else []

-- the same of a line behind this one, if one is given
abbrev pub got_by : ℕ → Option ℕ → Numbered → List GotMessage
got_by stream after line = if behind after line.number then got_at stream line else []

-- a message, if there is one
abbrev pub listed : Option GotMessage → List GotMessage
listed None = []
listed (Some message) = message ∷ []

-- and those of lines, the oldest first
abbrev pub got_of : ℕ → Option ℕ → List Numbered → List GotMessage
got_of stream after [] = []
got_of stream after (line ∷ past) = got_of stream after past ++ got_by stream after line

-- this number, or the first one
abbrev pub or_first : Option ℕ → ℕ → Option ℕ
or_first None number = Some number
or_first (Some first) number = Some first

-- the number of the first of the lines that are behind this one
abbrev pub first_behind : Option ℕ → List Numbered → Option ℕ
first_behind after [] = None
first_behind after (line ∷ past) = if behind after line.number then or_first (first_behind after past) line.number else first_behind after past

-- a page tells what these lines say was got of a stream: all that stand behind this one, in their order, and none else
pub record Tells (stream : ℕ) (after : Option ℕ) (past : List Numbered) (page : GotPage) : Type 0 where
  pub messages : page.messages.items ≡ got_of stream after past
  pub from : page.from ≡ first_behind after past
  pub next : page.next ≡ newest_number past
