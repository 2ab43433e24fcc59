-- Connections, as contracts see them.
use Rattle.std.specs.Prelude.{◌≡◌, ◌⊎◌, ℕ, ◌+◌, ◌-◌, ◌^◌, ◌≤◌, ◌==◌, nat_lt, min, Bool, true, false, not, ◌&&◌, if◌then◌else◌, Option, None, Some, Result, Ok, Err, IsOk, IsErr, MatchResult, List, [], ◌∷◌, ◌++◌, length, take, drop, position, unwrap_or, bytes_eq, codes}
use Rattle.http1.specs.Conn.{after_data, data_refusal, data_text}
use Rattle.http1.specs.Fields.{Header}
use Rattle.http1.specs.ReadError.{is_line_end}
use Rattle.http1.specs.Server.{IsClosed, after_response, new_server, planned_response, reading, response_refusal, with_writing, writing}
use Rattle.http1.specs.declared.conn.BodySize.{BodySize}
use Rattle.http1.specs.declared.conn.Limits.{Limits}
use Rattle.http1.specs.declared.conn.BodySize.TheVariants.{Empty, Known, Unknown}
use Rattle.http1.specs.declared.error.WriteError.{WriteError}
use Rattle.http1.specs.declared.error.WriteError.TheVariants as WriteFault
use Rattle.http1.specs.declared.server.Server.{Server}
use Rattle.amo_door.specs.declared.answer.Answer.{Answer}
use Rattle.amo_door.specs.declared.answer.Kind.TheVariants.{Json}
use Rattle.amo_door.specs.declared.call.Call.{Call as CallAsked}
use Rattle.amo_door.specs.declared.connection.Phase.{Phase}
use Rattle.amo_door.specs.declared.connection.Phase.TheVariants as phase
use Rattle.amo_door.specs.declared.connection.Stage.{Stage}
use Rattle.amo_door.specs.declared.connection.Stage.TheVariants as stage
use Rattle.amo_door.specs.declared.connection.Step.{Step}
use Rattle.amo_door.specs.declared.connection.Step.TheVariants.{Call, Wait, Over}
use Rattle.amo_door.specs.declared.refusal.Refusal.{Refusal}
use Rattle.amo_door.specs.Answer.{IsRefusal, extra_of}
use Rattle.amo_door.specs.Refusal.{status_of}
use Rattle.amo_door.specs.Spelling.{after_answer, answer_fault, answer_text, common_fields}

-- what came from the client and waits to be read, and what is to be sent to it
pub record ConnectionState : Type 0 where
  pub input : List ℕ
  pub output : List ℕ
  -- how HTTP/1 is read and written
  pub server : Server
  -- the request wants the head of its answer alone
  pub wants_head : Bool
  -- what it is at
  pub stage : Stage
  -- the head of a request was read, and its body has not come whole
  pub has_begun : Bool
  -- the call that this head asks for, or why it is refused
  pub asks : Option (Result CallAsked Refusal)
  -- what came of this body
  pub body : List ℕ
  -- the client sends no more
  pub has_ended : Bool
  -- how many bytes were thrown away behind a refusal
  pub thrown : ℕ
  -- how many requests were answered
  pub answered : ℕ

-- the most bytes of a head, of a chunk's extensions and of what stands behind a body
abbrev pub door_limits : Limits
door_limits = record { max_head_len = 16384; max_extensions_len = 1024; max_trailers_len = 1024 }

-- HTTP/1 before a request, within these limits
abbrev pub unused_server : Server
unused_server = new_server door_limits

-- the limits within which HTTP/1 reads
abbrev pub limits_of : Server → Limits
limits_of server = server.limits

-- a connection on which nothing came
abbrev pub unused : ConnectionState
unused = record { input = []; output = []; server = unused_server; wants_head = false; stage = stage.Reading; has_begun = false; asks = None; body = []; has_ended = false; thrown = 0; answered = 0 }

-- what one is at where requests are read
abbrev pub reading_phase : Bool → ℕ → Phase
reading_phase true waiting = phase.Body
reading_phase false waiting = if waiting == 0 then phase.Idle else phase.Head

-- what one is at, by its stage, whether a request has begun, and how many bytes wait to be read
abbrev pub phase_at : Stage → Bool → ℕ → Phase
phase_at stage.Reading begun waiting = reading_phase begun waiting
phase_at stage.Asked begun waiting = phase.Asked
phase_at stage.Following begun waiting = phase.Following
phase_at stage.Closing begun waiting = phase.Closing
phase_at stage.Over begun waiting = phase.Over

abbrev pub phase_of : ConnectionState → Phase
phase_of c = phase_at c.stage c.has_begun (length c.input)

-- whether more bytes are wanted, by its stage, where the client may send more and so many wait to be read
abbrev pub wants_at : Stage → ℕ → Bool
wants_at stage.Reading waiting = nat_lt waiting 17408
wants_at stage.Asked waiting = nat_lt waiting 17408
wants_at stage.Following waiting = nat_lt waiting 17408
wants_at stage.Closing waiting = true
wants_at stage.Over waiting = false

abbrev pub wants_input : ConnectionState → Bool
wants_input c = not c.has_ended && wants_at c.stage (length c.input)

-- how many bytes it takes at once
abbrev pub room_at : Stage → ℕ → ℕ
room_at stage.Reading waiting = 17408 - waiting
room_at stage.Asked waiting = 17408 - waiting
room_at stage.Following waiting = 17408 - waiting
room_at stage.Closing waiting = 17408
room_at stage.Over waiting = 17408 - waiting

abbrev pub room_of : ConnectionState → ℕ
room_of c = room_at c.stage (length c.input)

-- one number more, as far as there are such numbers
abbrev pub one_more : ℕ → ℕ
one_more count = min (count + 1) (2 ^ 64 - 1)

-- there is no more to do
abbrev pub over : ConnectionState → ConnectionState
over c = record c { stage = stage.Over }

-- what was not read is dropped, and no more is read; what is pending is sent
abbrev pub closed : ConnectionState → ConnectionState
closed c = record c { input = []; has_begun = false; asks = None; stage = if length c.output == 0 then stage.Over else stage.Closing }

-- the empty lines that may stand in front of a request, and what is behind them
abbrev pub blank_length : List ℕ → ℕ
blank_length bytes = unwrap_or (position (λ byte. not (is_line_end byte)) bytes) (length bytes)

abbrev pub behind_blank : List ℕ → List ℕ
behind_blank bytes = drop (blank_length bytes) bytes

-- a request begins so that wants the head of its answer alone
abbrev pub begins_with_head : List ℕ → Bool
begins_with_head bytes = bytes_eq (take 5 (behind_blank bytes)) (codes "HEAD ")

-- Whether the request that is at hand wants that: as its head said; where that has not come whole, as what came of it begins.
abbrev pub knows_method : Stage → Bool → ConnectionState → ConnectionState
knows_method stage.Reading false c = record c { wants_head = begins_with_head c.input }
knows_method _ _ c = c

abbrev pub knowing_method : ConnectionState → ConnectionState
knowing_method c = knows_method c.stage c.has_begun c

-- so many bytes more were thrown away: a client that sends on and on is let go
abbrev pub thrown_at : ℕ → ConnectionState → ConnectionState
thrown_at thrown c = record c { thrown = thrown; stage = if nat_lt 262144 thrown then stage.Over else c.stage }

abbrev pub throws : ℕ → ConnectionState → ConnectionState
throws count c = thrown_at (min (c.thrown + count) (2 ^ 64 - 1)) c

-- how many of so many bytes it takes
abbrev pub taken_count : Stage → ℕ → ℕ → ℕ
taken_count stage.Reading waiting came = min came (17408 - waiting)
taken_count stage.Asked waiting came = min came (17408 - waiting)
taken_count stage.Following waiting came = min came (17408 - waiting)
taken_count stage.Closing waiting came = came
taken_count stage.Over waiting came = min came (17408 - waiting)

-- the connection that has taken so many of these bytes: behind a refusal they are thrown away
abbrev pub taken_at : Stage → ConnectionState → List ℕ → ℕ → ConnectionState
taken_at stage.Reading c bytes count = record c { input = c.input ++ take count bytes }
taken_at stage.Asked c bytes count = record c { input = c.input ++ take count bytes }
taken_at stage.Following c bytes count = record c { input = c.input ++ take count bytes }
taken_at stage.Closing c bytes count = throws count c
taken_at stage.Over c bytes count = record c { input = c.input ++ take count bytes }

-- what it is at once so many bytes are left to be sent
abbrev pub stage_behind : Stage → ℕ → Stage
stage_behind stage.Reading left = stage.Reading
stage_behind stage.Asked left = stage.Asked
stage_behind stage.Following left = stage.Following
stage_behind stage.Closing left = if left == 0 then stage.Over else stage.Closing
stage_behind stage.Over left = stage.Over

-- the connection of which so many bytes were sent
abbrev pub without_sent : ℕ → ConnectionState → ConnectionState
without_sent count c = record c { output = drop count c.output; stage = stage_behind c.stage (length (drop count c.output)) }

-- bytes in front were read
abbrev pub IsRest : List ℕ → List ℕ → Type 0
IsRest old new = (count : ℕ) × (new ≡ drop count old)

-- what is to be sent goes on behind what was
abbrev pub Extends : List ℕ → List ℕ → Type 0
Extends old new = (more : List ℕ) × (new ≡ old ++ more)

-- it is at what it was at, or comes to its end
abbrev pub StaysOrEnds : Stage → Stage → Type 0
StaysOrEnds old new = (new ≡ old) ⊎ ((new ≡ stage.Closing) ⊎ (new ≡ stage.Over))

-- requests were read, and those that are refused were answered
pub record GoesOn (old new : ConnectionState) : Type 0 where
  pub input : IsRest old.input new.input
  pub output : Extends old.output new.output
  pub stage : StaysOrEnds old.stage new.stage
  pub has_ended : new.has_ended ≡ old.has_ended
  pub thrown : new.thrown ≡ old.thrown
  pub answered : old.answered ≤ new.answered

-- the same, and then a request came whole: it waits for its answer, and not too much is to be sent
pub record IsAsked (old new : ConnectionState) : Type 0 where
  pub input : IsRest old.input new.input
  pub output : Extends old.output new.output
  pub bounded : length new.output ≤ 65536
  pub stage : new.stage ≡ stage.Asked
  pub has_begun : new.has_begun ≡ false
  pub asks : new.asks ≡ None
  pub has_ended : new.has_ended ≡ old.has_ended
  pub thrown : new.thrown ≡ old.thrown
  pub answered : old.answered ≤ new.answered

-- what comes of requests that are read
abbrev pub Comes : ConnectionState → ConnectionState → Step → Type 0
Comes old new (Call call message) = IsAsked old new
Comes old new Wait = GoesOn old new
Comes old new Over = GoesOn old new × (new.stage ≡ stage.Over)

-- the same, where there may be more
abbrev pub MayCome : ConnectionState → ConnectionState → Option Step → Type 0
MayCome old new None = GoesOn old new
MayCome old new (Some step) = Comes old new step

-- what a connection comes to, by what it was at: where no requests are read it stays as it is, but that one who followed and sends no more is let go
abbrev pub Goes : {E : Type 0} → Stage → ConnectionState → Result Step E → ConnectionState → Type 0
Goes stage.Reading old result new = MatchResult result (Comes old new) (λ _. GoesOn old new × (new.stage ≡ stage.Over))
Goes stage.Asked old result new = (result ≡ Ok Wait) × (new ≡ old)
Goes stage.Following old result new = (result ≡ Ok Wait) × (new ≡ (if old.has_ended then closed old else old))
Goes stage.Closing old result new = (result ≡ Ok Wait) × (new ≡ old)
Goes stage.Over old result new = (result ≡ Ok Over) × (new ≡ old)

-- one more request was answered: so much is to be sent now, and HTTP/1 goes on so
abbrev pub counted : ConnectionState → List ℕ → Server → ConnectionState
counted c output server = record c { output = output; server = server; wants_head = false; answered = one_more c.answered }

-- the request that waited for its answer has it: the next one is read, or none where HTTP/1 has ended, or the answer could not be spelt
abbrev pub Answered : ConnectionState → ConnectionState → Type 0
Answered told new =
    ((¬ (IsClosed told.server)) × (new ≡ record told { stage = stage.Reading })) ⊎ ((IsClosed told.server × (new ≡ closed told)) ⊎ (new ≡ over told))

-- what an answer comes to, by what the connection was at: where no request waits for one it is over
abbrev pub Answers : {T E : Type 0} → Stage → ConnectionState → Result T E → ConnectionState → Type 0
Answers stage.Reading old result new = IsOk result × (new ≡ over old)
Answers stage.Asked old result new =
    Extends old.output new.output × MatchResult result (λ _. Answered (counted old new.output new.server) new) (λ _. new ≡ over (counted old new.output new.server))
Answers stage.Following old result new = IsOk result × (new ≡ over old)
Answers stage.Closing old result new = IsOk result × (new ≡ over old)
Answers stage.Over old result new = IsOk result × (new ≡ over old)

-- so much more is to be sent, and it follows; or that could not be spelt, which ends it
abbrev pub Follows : ConnectionState → ConnectionState → Type 0
Follows old new = ((more : List ℕ) × (new ≡ record old { output = old.output ++ more; server = new.server; stage = stage.Following })) ⊎ (new ≡ over old)

-- what comes of following, by what the connection was at: where no request waits for its answer it is over
abbrev pub Begins : {T E : Type 0} → Stage → ConnectionState → Result T E → ConnectionState → Type 0
Begins stage.Reading old result new = IsOk result × (new ≡ over old)
Begins stage.Asked old result new = MatchResult result (λ _. Follows old new) (λ _. new ≡ over old)
Begins stage.Following old result new = IsOk result × (new ≡ over old)
Begins stage.Closing old result new = IsOk result × (new ≡ over old)
Begins stage.Over old result new = IsOk result × (new ≡ over old)

-- what telling one who follows comes to: one that lags too far behind is let go
abbrev pub TellsOne : {T E : Type 0} → Bool → ConnectionState → Result T E → ConnectionState → Type 0
TellsOne true old result new = IsOk result × (new ≡ over old)
TellsOne false old result new = MatchResult result (λ _. Follows old new) (λ _. new ≡ over old)

-- what telling comes to, by what the connection was at: where it does not follow, nothing happens
abbrev pub Tells : {T E : Type 0} → Stage → ConnectionState → Result T E → ConnectionState → Type 0
Tells stage.Reading old result new = IsOk result × (new ≡ old)
Tells stage.Asked old result new = IsOk result × (new ≡ old)
Tells stage.Following old result new = TellsOne (nat_lt 65536 (length old.output)) old result new
Tells stage.Closing old result new = IsOk result × (new ≡ old)
Tells stage.Over old result new = IsOk result × (new ≡ old)

-- what a refusal comes to: it was answered and no more is read; or memory was refused
abbrev pub Refuses : {T E : Type 0} → ConnectionState → Result T E → ConnectionState → Type 0
Refuses old result new = MatchResult result
    (λ _. (output : List ℕ) × Extends old.output output × (new ≡ closed (counted old output new.server)))
    (λ _. (new ≡ old) ⊎ ((output : List ℕ) × Extends old.output output × (new ≡ over (counted old output new.server))))

-- how what was written ends a call: what could not be written whole ends the connection
abbrev pub Settles : {T E : Type 0} → ConnectionState → Result T WriteError → Result T E → ConnectionState → Type 0
Settles old (Ok done) result new = IsOk result × (new ≡ old)
Settles old (Err WriteFault.OutOfMemory) result new = IsErr result × (new ≡ over old)
Settles old (Err _) result new = IsOk result × (new ≡ over old)

-- whether a body of this size is still to come
abbrev pub is_body : BodySize → Bool
is_body Empty = false
is_body (Known bytes) = not (bytes == 0)
is_body Unknown = true

-- it comes to its end
abbrev pub Ends : Stage → Type 0
Ends now = (now ≡ stage.Closing) ⊎ (now ≡ stage.Over)

-- what writing comes to: this text is to be sent behind what was, and HTTP/1 goes on so; or there is a fault, and the connection ends
abbrev pub Spells : Option WriteError → List ℕ → Server → List ℕ → ConnectionState → Type 0
Spells None text server old new = (new.output ≡ old ++ text) × (new.server ≡ server)
Spells (Some fault) text server old new = Ends new.stage

-- the same of an answer, which is the last one or not
abbrev pub SpellsAnswer : Answer → Bool → ConnectionState → ConnectionState → Type 0
SpellsAnswer answer closes old new =
    Spells (answer_fault old.server answer old.wants_head closes) (answer_text old.server answer old.wants_head closes) (after_answer old.server answer closes) old.output new

-- an answer says why a request is refused
pub record SaysWhy (reason : Refusal) (answer : Answer) : Type 0 where
  pub status : answer.status ≡ status_of reason
  pub kind : answer.kind ≡ Json
  pub extra : answer.extra ≡ extra_of reason
  pub body : IsRefusal reason [] answer.body.items

-- the same of an answer that refuses, which is the last one, and has no body where the request wants the head alone
abbrev pub SpellsRefusal : Refusal → ConnectionState → ConnectionState → Type 0
SpellsRefusal reason old new = (answer : Answer) × SaysWhy reason answer × SpellsAnswer answer true (knowing_method old) new

-- the fields of an answer that goes on with what happens
abbrev pub event_fields : List Header
event_fields = common_fields ++ (codes "content-type", codes "text/event-stream") ∷ []

-- the same of its head
abbrev pub SpellsFront : ConnectionState → ConnectionState → Type 0
SpellsFront old new =
    Spells (response_refusal old.server 200 (codes "OK") Unknown event_fields) (planned_response old.server 200 (codes "OK") Unknown event_fields)
    (after_response old.server 200 Unknown event_fields) old.output new

-- the same of a text behind it
abbrev pub SpellsText : List ℕ → ConnectionState → ConnectionState → Type 0
SpellsText text old new =
    Spells (data_refusal (writing old.server) (length text)) (data_text (writing old.server) text)
    (with_writing old.server (after_data (writing old.server) (length text))) old.output new

-- it reads on as before, though something more is to be sent
pub record ReadsTheSame (old new : ConnectionState) : Type 0 where
  pub kept : new ≡ record old { output = new.output; server = new.server }
  pub reads : reading new.server ≡ reading old.server
  pub writes : writing new.server ≡ writing old.server
  pub limits : limits_of new.server ≡ limits_of old.server

-- a request that was refused and came whole was answered: the next one is read
pub record PassesOver (old new : ConnectionState) : Type 0 where
  pub stage : new.stage ≡ old.stage
  pub input : new.input ≡ old.input
  pub asks : new.asks ≡ old.asks
  pub answer : Answer
  pub server : new.server ≡ after_answer old.server answer false

-- what a request that came whole comes to: its message is its body; or it was refused, and the next one is read, or none
abbrev pub Finishes : ConnectionState → ConnectionState → Option Step → Type 0
Finishes old new (Some (Call call message)) = (old.asks ≡ Some (Ok call)) × (message ≡ old.body) × (new ≡ record old { stage = stage.Asked; has_begun = false; asks = None })
Finishes old new (Some _) = Ends new.stage
Finishes old new None =
    ((old.asks ≡ None) × (new ≡ old)) ⊎ ((why : Refusal) × (old.asks ≡ Some (Err why)) × (Ends new.stage ⊎ PassesOver (record old { has_begun = false; asks = None }) new))
