-- What becomes of the messages in a client's lines.
use Rattle.std.specs.Prelude.{◌≡◌, ℕ, Bool, false, ◌&&◌, if◌then◌else◌, List, [], ◌∷◌, ◌++◌, map, reverse}
use Rattle.amo_book.specs.Pass.{PassState, mine}
use Rattle.amo_lines.specs.declared.input.Line.{Line}
use Rattle.amo_lines.specs.declared.input.Line.TheVariants.{Put, Unread}
use Rattle.amo_lines.specs.declared.lines.Spelling.{Spelling}
use Rattle.amo_lines.specs.Backlog.{Addressed, BacklogState, kept_on, messages_on}
use Rattle.amo_lines.specs.Input.{InputState, IsPending}
use Rattle.amo_lines.specs.Line.{AreLines}
use Rattle.amo_live.specs.Client.{has}
use Rattle.amo_live.specs.Host.{puts_in}

-- the message that is to be put by a line, where lines are put and there is such a stream
abbrev pub message_of : Bool → ℕ → Line → List Addressed
message_of puts streams (Put stream named) = if puts && has streams stream then ((stream, named) ∷ []) else []
message_of puts streams (Unread fault id) = []

-- the messages that are to be put by lines
abbrev pub messages_of : Bool → ℕ → List Line → List Addressed
messages_of puts streams [] = []
messages_of puts streams (line ∷ lines) = message_of puts streams line ++ messages_of puts streams lines

-- a message on a stream, whatever its line is called
abbrev pub unnamed : Addressed → ℕ × List ℕ
unnamed (stream, named) = (stream, named.message)

-- On each stream the messages that were kept, and then those of these lines, are those that were put meanwhile, in their order, and then those that are
-- kept now, each with the id of its line. So a message that is not taken is the next to be put on its stream, none is put twice or left out, and no stream waits for another.
pub record Moves (messages : List Addressed) (kept kept' : BacklogState) (v w : PassState) : Type 0 where
  pub put : List Addressed
  pub mine_is : puts_in (mine w) ≡ reverse (map unnamed put) ++ puts_in (mine v)
  pub order : (stream : ℕ) → kept_on stream kept ++ messages_on stream messages ≡ messages_on stream put ++ kept_on stream kept'

-- what a host and its clients have at a moment: what came and was not taken, the messages that are kept, and what the host did
pub record Moment : Type 0 where
  pub input : InputState
  pub kept : BacklogState
  pub pass : PassState

abbrev pub moment : InputState → BacklogState → PassState → Moment
moment input kept pass = record { input = input; kept = kept; pass = pass }

-- Between two moments a reader brought these bytes. What was pending, and they behind it, is the text of the lines that were taken and then what is
-- pending now; and the lines' messages were put. A text without an end is no line's, also where no more may come.
pub record Serves (spelling : Spelling) (puts : Bool) (streams : ℕ) (bytes : List ℕ) (m n : Moment) : Type 0 where
  pub lines : List Line
  pub closed : m.input.is_open ≡ false → (bytes ≡ []) × (n.input.is_open ≡ false)
  pub text : (text : List ℕ) → IsPending m.input text → (front more : List ℕ) × (text ++ bytes ≡ front ++ more) × AreLines spelling front lines × IsPending n.input more
  pub moves : Moves (messages_of puts streams lines) m.kept n.kept m.pass n.pass
