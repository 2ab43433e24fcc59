-- The two versions of journals, and what tells them apart.
use Rattle.std.specs.Prelude.{◌≡◌, ◌≢◌, ℕ, List, [], ◌∷◌, ◌++◌, codes}
use Rattle.amo_journal.specs.declared.version.Version.{Version}
use Rattle.amo_journal.specs.declared.version.Version.TheVariants.{One, Two}

-- what stands in front of the first event's line: nothing, or a line of its own, with its end
abbrev pub heading : Version → List ℕ
heading One = []
heading Two = codes "amo 2" ++ 10 ∷ []

-- how many lines those are
abbrev pub lines_before : Version → ℕ
lines_before One = 0
lines_before Two = 1

-- the newest version of packets whose deliveries have a line
abbrev pub newest : Version → ℕ
newest One = 1
newest Two = 2

-- starts of batches have a line
abbrev pub HasBatches : Version → Type 0
HasBatches One = ⊥
HasBatches Two = Unit {0}

-- A file of this version, with this behind its heading. It is of version 2 exactly where its first line is that heading.
abbrev pub Opens : Version → List ℕ → List ℕ → Type 0
Opens One body bytes = (bytes ≡ body) × ((more : List ℕ) → bytes ≢ heading Two ++ more)
Opens Two body bytes = bytes ≡ heading Two ++ body
