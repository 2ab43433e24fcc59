-- The ids of messages that have no answer yet.
use Rattle.std.specs.Prelude.{ℕ, zero, suc, None, List, [], ◌∷◌, ◌++◌, get_or, slice_set}
use Rattle.amo_lines.specs.Backlog.{kept_on}
use Rattle.amo_lines.specs.Object.{Name}

-- the ids of those messages of each stream that were put and have no answer, from stream 1 on, the first that was put first
abbrev pub Owed : Type 0
Owed = List (List Name)

-- one more is owed an answer, behind those of its stream
abbrev pub owing : ℕ → Name → Owed → Owed
owing zero id owed = owed
owing (suc place) id owed = slice_set owed place (get_or owed place [] ++ id ∷ [])

-- the id of a stream's first; where none is owed an answer, there is none
abbrev pub first_of : List Name → Name
first_of [] = None
first_of (id ∷ ids) = id

abbrev pub first_id : ℕ → Owed → Name
first_id stream owed = first_of (kept_on stream owed)

-- that one has its answer
abbrev pub without_first : Owed → ℕ → List Name → Owed
without_first owed place [] = owed
without_first owed place (id ∷ ids) = slice_set owed place ids

abbrev pub answered : ℕ → Owed → Owed
answered zero owed = owed
answered (suc place) owed = without_first owed place (get_or owed place [])
