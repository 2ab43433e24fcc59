-- The lines of a sender's journal that matter for messages without an answer.
use Rattle.std.specs.Prelude.{ℕ, zero, suc, Bool, true, false, Option, Some, List, [], ◌∷◌, ◌++◌, drop, get_or, if◌then◌else◌, slice_set}
use Rattle.std.specs.List.{filter, flat_map}
use Rattle.amo_core.specs.declared.mode.Mode.{Mode}
use Rattle.amo_core.specs.declared.mode.Mode.TheVariants as mode
use Rattle.amo_live.specs.declared.stream_lines.Kind.{Kind}
use Rattle.amo_live.specs.declared.stream_lines.Kind.TheVariants.{Put, Handshake}
use Rattle.amo_live.specs.declared.unanswered.Step.{Step}
use Rattle.amo_live.specs.declared.unanswered.Step.TheVariants.{Keep, End, Forget, Nothing}

-- a line: what it tells, and its text
pub record Kept : Type 0 where
  pub kind : Kind
  pub text : List ℕ

-- those of each stream, from stream 1 on, in the order in which they were written
abbrev pub KeptLines : Type 0
KeptLines = List (List Kept)

-- one more is kept, behind those of its stream
abbrev pub keeping : ℕ → Kept → KeptLines → KeptLines
keeping zero line kept = kept
keeping (suc place) line kept = slice_set kept place (get_or kept place [] ++ line ∷ [])

-- whether a line is that of a put
abbrev pub tells_put : Kind → Bool
tells_put Put = true
tells_put Handshake = false

abbrev pub is_put : Kept → Bool
is_put line = tells_put line.kind

-- how many lines tell of a handshake
abbrev pub others : List Kept → ℕ
others [] = 0
others (line ∷ rest) = if is_put line then others rest else suc (others rest)

-- the lines but for so many of the first that tell of a handshake
abbrev pub kept_of : ℕ → List Kept → List Kept
kept_of zero lines = lines
kept_of (suc left_out) [] = []
kept_of (suc left_out) (line ∷ rest) = if is_put line then (line ∷ kept_of (suc left_out) rest) else kept_of left_out rest

-- what is left of a stream's lines where a handshake of so many messages ended: the puts behind the first so many
abbrev pub left_by : ℕ → List Kept → List Kept
left_by messages lines = drop messages (filter is_put lines)

abbrev pub ended : ℕ → ℕ → KeptLines → KeptLines
ended zero messages kept = kept
ended (suc place) messages kept = slice_set kept place (left_by messages (get_or kept place []))

-- none is left of a stream's lines
abbrev pub forgotten : ℕ → KeptLines → KeptLines
forgotten zero kept = kept
forgotten (suc place) kept = slice_set kept place []

-- What becomes of a stream's lines at an event: its line is kept, that ended a handshake, all is forgotten, or nothing.
abbrev pub step_of : Option Mode → Mode → Step
step_of (Some mode.Quiet) mode.NeedId = Keep
step_of (Some mode.NeedId) mode.Send = Keep
step_of (Some mode.Send) mode.Quiet = End
step_of _ mode.Down = Forget
step_of _ _ = Nothing

abbrev pub stepped : Step → ℕ → ℕ → List ℕ → KeptLines → KeptLines
stepped Keep stream messages line kept = keeping stream (record { kind = Handshake; text = line }) kept
stepped End stream messages line kept = ended stream messages kept
stepped Forget stream messages line kept = forgotten stream kept
stepped Nothing stream messages line kept = kept

-- the text of a stream's lines, and of those of all streams
abbrev pub text_on : List Kept → List ℕ
text_on lines = flat_map (λ (line : Kept). line.text) lines

abbrev pub text_of : KeptLines → List ℕ
text_of kept = flat_map text_on kept
