-- A journal that is written while things happen.
use Rattle.std.specs.Prelude.{◌≡◌, ℕ, zero, suc, ◌+◌, ◌-◌, ◌≤◌, Bool, if◌then◌else◌, Option, Some, None, List, [], ◌∷◌, ◌++◌, length, take}
use Rattle.std.specs.Io.KnownBytes.{Appends}
use Rattle.amo_text.specs.Sink.{AppendsFront}
use Rattle.amo_world.specs.declared.event.Event.{Event}
use Rattle.amo_journal.specs.declared.version.Version.{Version}
use Rattle.amo_journal.specs.Version.{heading}
use Rattle.amo_journal.specs.Journal.{line_text}

-- The version, the sink, the number of the next line, of how many of the next events the lines stand, and the line of the last event. And how the journal was
-- opened: the sink then, the number of the first line to come, what was to stand in front of that, and of how many of the first events the lines stood.
pub record JournalState (S : Type 0) : Type 0 where
  pub version : Version
  pub sink : S
  pub next : ℕ
  pub left : ℕ
  pub last : List ℕ
  pub opened : S
  pub first : ℕ
  pub front : List ℕ
  pub standing : ℕ

-- what stands in front of the first line to come: the heading, where the journal is new, and else nothing
abbrev pub front_of : Bool → Version → List ℕ
front_of is_new version = if is_new then heading version else []

-- a journal that goes on in its version behind so many lines, with the last of which so many of its first events stand; nothing was written yet
abbrev pub going_on : {S : Type 0} → Version → S → ℕ → ℕ → JournalState S
going_on version sink lines standing = record { version = version; sink = sink; next = lines; left = standing; last = []; opened = sink; first = lines; front = []; standing = standing }

-- a new journal of this version, of which nothing was written yet
abbrev pub beginning : {S : Type 0} → Version → S → JournalState S
beginning version sink = record { version = version; sink = sink; next = 0; left = 0; last = []; opened = sink; first = 0; front = heading version; standing = 0 }

-- the journal in a sink that was read: it goes on in the version that its lines tell, behind so many, of which the last are the lines of so many of its
-- first events; where none tells it, it is new, and of this one
abbrev pub opening : {S : Type 0} → Version → Option Version → ℕ → ℕ → S → JournalState S
opening version None lines standing sink = beginning version sink
opening version (Some known) lines standing sink = going_on known sink lines standing

-- it is of the same version, and was opened as the other was
pub record IsSameJournal {S : Type 0} (j k : JournalState S) : Type 0 where
  pub version : k.version ≡ j.version
  pub opened : k.opened ≡ j.opened
  pub first : k.first ≡ j.first
  pub front : k.front ≡ j.front
  pub standing : k.standing ≡ j.standing

-- a history, newest first, without so many of its first events
abbrev pub behind_first : ℕ → List Event → List Event
behind_first n history = take (length history - n) history

-- the lines of a history, in the order of time, numbered from this number on
abbrev pub lines_of : ℕ → List Event → List ℕ
lines_of first [] = []
lines_of first (e ∷ past) = lines_of first past ++ line_text (record { number = first + length past; event = e })

-- what is written of a history since the journal was opened: the heading, if it was new, and the lines of all events but those whose lines stood
abbrev pub text_since : {S : Type 0} → JournalState S → List Event → List ℕ
text_since j history = j.front ++ lines_of j.first (behind_first j.standing history)

-- The line of an event of this history, before which these happened: its number, and where it stands in what is written of the history. That is behind what is
-- written of those before it; unless its line was there before the journal was opened.
pub record HasLine {S : Type 0} (j : JournalState S) (history past : List Event) (e : Event) (line : ℕ) : Type 0 where
  pub number : line ≡ j.first + (length past - j.standing)
  pub written : j.standing ≤ length past → (behind : List ℕ) × (text_since j history ≡ text_since j past ++ (line_text (record { number = line; event = e }) ++ behind))

-- what is written of the next event, with this number, where the lines of so many stand
abbrev pub line_behind : ℕ → ℕ → Event → List ℕ
line_behind zero next e = line_text (record { number = next; event = e })
line_behind (suc left) next e = []

-- the number of the line behind that
abbrev pub next_behind : ℕ → ℕ → ℕ
next_behind zero next = next + 1
next_behind (suc left) next = next

-- given what sinks were written
module _ {S : Type 0} (written : S → Option (List ℕ)) where
  -- since it was opened, the journal was handed what is written of exactly this history, whole
  pub record Holds (j : JournalState S) (history : List Event) : Type 0 where
    pub text : Appends (written j.opened) (written j.sink) (text_since j history)
    pub next : j.next ≡ j.first + (length history - j.standing)
    pub left : j.left ≡ j.standing - length history

  -- since it was opened, the journal was handed a beginning of what is written of this history
  pub record Begins (j : JournalState S) (history : List Event) : Type 0 where
    pub text : AppendsFront (written j.opened) (written j.sink) (text_since j history)

  -- the line of this event was written, with the next number, unless it stands: then it is the first of those that do
  pub record Adds (j k : JournalState S) (e : Event) : Type 0 where
    pub line : Appends (written j.sink) (written k.sink) (line_behind j.left j.next e)
    pub next : k.next ≡ next_behind j.left j.next
    pub left : k.left ≡ j.left - 1
    pub last : k.last ≡ line_text (record { number = j.next - j.left; event = e })
    pub same : IsSameJournal j k

  -- a beginning of that line was written
  pub record AddsFront (j k : JournalState S) (e : Event) : Type 0 where
    pub line : AppendsFront (written j.sink) (written k.sink) (line_behind j.left j.next e)
    pub same : IsSameJournal j k
