-- The text of the file beside a sender's journal, in front of its seal.
use Rattle.std.specs.Prelude.{ℕ, Option, None, Some, List, [], ◌∷◌, ◌++◌, codes}
use Rattle.std.specs.Borrow.{Bor}
use Rattle.std.specs.Fmt.{decimal}
use Rattle.std.specs.List.{flat_map}
use Rattle.amo_journal.specs.declared.version.Version.{Version}
use Rattle.amo_journal.specs.Version.{heading}

-- a stream behind a space
abbrev pub stream_field : ℕ → List ℕ
stream_field stream = 32 ∷ decimal stream

-- what a text is whose first space is gone, if it had one: nothing, or that space and what stands behind it
abbrev pub fields_in : Option (Bor (List ℕ)) → List ℕ
fields_in None = []
fields_in (Some fields) = 32 ∷ fields.now

-- the first line: how many lines are told, each stream in doubt behind a space, and a line feed
abbrev pub opening_line : ℕ → List ℕ → List ℕ
opening_line lines streams = codes "amo told " ++ (decimal lines ++ (flat_map stream_field streams ++ 10 ∷ []))

-- these lines as a journal of this version, or nothing where there are none
abbrev pub listed : Version → List ℕ → List ℕ
listed version [] = []
listed version lines = heading version ++ lines
