-- Which requests are read of the bytes that come on a connection, by the grammar of HTTP/1, and what their heads ask for.
use Rattle.std.specs.Prelude.{◌≡◌, ◌⊎◌, ℕ, Bool, true, false, Option, None, Some, Result, Ok, Err, List, [], ◌∷◌, ◌++◌, map, codes}
use Rattle.std.specs.List.{AllByRecursion}
use Rattle.httparse.specs.Grammar.{RequestHead}
use Rattle.httparse.specs.Spans.{name_and_value}
use Rattle.http1.specs.Body.{Body}
use Rattle.http1.specs.Decoder.{Completes, with_front}
use Rattle.http1.specs.Fields.{Header}
use Rattle.http1.specs.Message.{ReadsRequests, Request, known_of}
use Rattle.http1.specs.Server.{reading, writing}
use Rattle.http1.specs.declared.conn.Reading.{Reading}
use Rattle.http1.specs.declared.conn.Reading.TheVariants as reading_of
use Rattle.http1.specs.declared.conn.Writing.TheVariants as writing_of
use Rattle.http1.specs.declared.decode.Decoder.{Decoder}
use Rattle.http1.specs.declared.server.Server.{Server}
use Rattle.amo_door.specs.declared.call.Call.{Call}
use Rattle.amo_door.specs.declared.call.Call.TheVariants as call
use Rattle.amo_door.specs.declared.connection.Stage.{Stage}
use Rattle.amo_door.specs.declared.connection.Stage.TheVariants as stage
use Rattle.amo_door.specs.declared.connection.Step.{Step}
use Rattle.amo_door.specs.declared.connection.Step.TheVariants as step
use Rattle.amo_door.specs.declared.guard.Guard.{Guard}
use Rattle.amo_door.specs.declared.head.Reader.{Reader}
use Rattle.amo_door.specs.declared.refusal.Refusal.{Refusal}
use Rattle.amo_door.specs.declared.refusal.Refusal.TheVariants as refusal
use Rattle.amo_door.specs.Call.{Asks, Refuses}
use Rattle.amo_door.specs.Connection.{ConnectionState, door_limits, limits_of}
use Rattle.amo_door.specs.Guard.{verdict_of}
use Rattle.amo_door.specs.Head.{IsBehind, field_of, site_of}
use Rattle.amo_door.specs.Place.{method_of}

-- whether the one who asks may ask, by the fields of the head of a request
abbrev pub admission : Guard → List ℕ → List ℕ → List Header → Result (Unit {0}) Refusal
admission guard method target fields = verdict_of guard (field_of (codes "host") fields) (field_of (codes "origin") fields) (site_of method target fields) (field_of (codes "authorization") fields)

-- a put, unless its body is a part of a message, which is none (RFC 9110, section 14.5)
abbrev pub unless_part : Option (List ℕ) → Call → Result Call Refusal
unless_part None asked = Ok asked
unless_part (Some range) asked = Err refusal.Unreadable

-- what comes of the call that a target names, by the fields of the head
abbrev pub ComesOf : List Header → Call → Result Call Refusal → Type 0
ComesOf fields (call.Events after) read = (behind : Option ℕ) × IsBehind (field_of (codes "last-event-id") fields) after behind × (read ≡ Ok (call.Events behind))
ComesOf fields (call.Put claim) read = read ≡ unless_part (field_of (codes "content-range") fields) (call.Put claim)
ComesOf fields (call.PutNext stream) read = read ≡ unless_part (field_of (codes "content-range") fields) (call.PutNext stream)
ComesOf fields asked read = read ≡ Ok asked

-- the same of one who may ask, or may not
abbrev pub ReadsOf : Reader → List ℕ → List ℕ → List Header → Result (Unit {0}) Refusal → Result Call Refusal → Type 0
ReadsOf reader method target fields (Err why) read = read ≡ Err why
ReadsOf reader method target fields (Ok may) read =
    ((asked : Call) × Asks reader.routes.now reader.served (method_of method) target asked × ComesOf fields asked read)
    ⊎ ((why : Refusal) × Refuses reader.routes.now reader.served (method_of method) target why × (read ≡ Err why))

-- what a door reads of a method, a target and fields
abbrev pub ReadsAs : Reader → List ℕ → List ℕ → List Header → Result Call Refusal → Type 0
ReadsAs reader method target fields read = ReadsOf reader method target fields (admission reader.guard.now method target fields) read

-- the same of the head of a request, whose body has a coding that the door does not know or has not
abbrev pub ReadsCoded : Bool → Reader → List ℕ → List ℕ → List Header → Result Call Refusal → Type 0
ReadsCoded true reader method target fields read = read ≡ Err refusal.Coding
ReadsCoded false reader method target fields read = ReadsAs reader method target fields read

abbrev pub ReadsHead : Reader → RequestHead → Result Call Refusal → Type 0
ReadsHead reader head read = ReadsCoded (known_of head.fields).other_coding reader head.method head.target (map name_and_value head.fields) read

-- of the bytes that came these requests are read, one behind another, and this stands behind them, whatever comes later
abbrev pub StandBehind : List ℕ → List Request → List ℕ → Type 0
StandBehind came past rest = (more : List ℕ) → ReadsRequests door_limits (came ++ more) past (rest ++ more)

-- HTTP/1 is at this, and no answer was begun
abbrev pub IsAt : Reading → Server → Type 0
IsAt now server = (reading server ≡ now) × (writing server ≡ writing_of.Head)

-- it waits for a request, or has ended
abbrev pub IsBetween : Server → Type 0
IsBetween server = IsAt reading_of.Head server ⊎ (reading server ≡ reading_of.Closed)

-- Behind these requests the head of another one was read, and a part of its body: what its decoder still waits for is the rest of its body.
pub record IsWithin (reader : Reader) (came : List ℕ) (past : List Request) (c : ConnectionState) (asked : Result Call Refusal) : Type 0 where
  pub front : List ℕ
  pub before : StandBehind came past front
  pub head : RequestHead
  pub asks : ReadsHead reader head asked
  pub decoder : Decoder
  pub decodes : IsAt (reading_of.Body decoder) c.server
  pub goes_on : (more : List ℕ) (body : Body) (rest : List ℕ) → Completes decoder (c.input ++ more) body rest
      → ReadsRequests door_limits (came ++ more) (past ++ record { head = head; body = with_front c.body body } ∷ []) rest

-- what waits to be read stands behind these requests, or behind a part of another one
abbrev pub WaitsBehind : Reader → List ℕ → List Request → ConnectionState → Option (Result Call Refusal) → Type 0
WaitsBehind reader came past c None = IsBetween c.server × StandBehind came past c.input
WaitsBehind reader came past c (Some asked) = IsWithin reader came past c asked

-- Of the bytes that came on a connection these requests were read, in their order, each once and none left out. Where more is to be read, all else that came
-- waits behind them.
abbrev pub HasReadAt : Stage → Reader → List ℕ → List Request → ConnectionState → Type 0
HasReadAt stage.Reading reader came past c = (limits_of c.server ≡ door_limits) × WaitsBehind reader came past c c.asks
HasReadAt stage.Asked reader came past c = (limits_of c.server ≡ door_limits) × IsAt reading_of.Done c.server × (c.asks ≡ None) × StandBehind came past c.input
HasReadAt _ reader came past c = (rest : List ℕ) × StandBehind came past rest

abbrev pub HasRead : Reader → List ℕ → List Request → ConnectionState → Type 0
HasRead reader came past c = HasReadAt c.stage reader came past c

-- each of these requests was refused, by its head
abbrev pub AreRefused : Reader → List Request → Type 0
AreRefused reader requests = AllByRecursion (λ (request : Request). (why : Refusal) × ReadsHead reader request.head (Err why)) requests

-- behind these requests some more were read, and refused
pub record ReadsOn (reader : Reader) (came : List ℕ) (past : List Request) (new : ConnectionState) : Type 0 where
  pub refused : List Request
  pub are_refused : AreRefused reader refused
  pub has_read : HasRead reader came (past ++ refused) new

-- and then one that asks for this call and brings this message
pub record ReadsCall (reader : Reader) (came : List ℕ) (past : List Request) (new : ConnectionState) (asked : Call) (message : List ℕ) : Type 0 where
  pub refused : List Request
  pub are_refused : AreRefused reader refused
  pub request : Request
  pub asks : ReadsHead reader request.head (Ok asked)
  pub brings : message ≡ request.body.bytes
  pub has_read : HasRead reader came ((past ++ refused) ++ request ∷ []) new

-- what comes of reading on, by the step that it comes to
abbrev pub Steps : Reader → List ℕ → List Request → ConnectionState → Step → Type 0
Steps reader came past new (step.Call asked message) = ReadsCall reader came past new asked message
Steps reader came past new _ = ReadsOn reader came past new

abbrev pub MayStep : Reader → List ℕ → List Request → ConnectionState → Option Step → Type 0
MayStep reader came past new None = ReadsOn reader came past new
MayStep reader came past new (Some taken) = Steps reader came past new taken
