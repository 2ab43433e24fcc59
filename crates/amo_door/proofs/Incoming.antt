-- How requests are read of the bytes that come, one thing behind another.
use Rattle.std.proofs.Common.{◌≡◌, ◌⊎◌, ℕ, ◌≤◌, Bool, true, false, cond, Option, None, Some, Result, Ok, Err, List, [], ◌∷◌, ◌++◌, map, drop, length, min, refl, sym, ◌∙◌, ap, subst, append_assoc, append-nil, inl, inr, arith}
use Rattle.std.specs.Prelude.{IfSome, IsSome, ◌==◌, ◌&&◌, not, if◌then◌else◌}
use Rattle.std.proofs.lemmas.Bool.{false≢true}
use Rattle.httparse.specs.Grammar.{RequestHead}
use Rattle.httparse.specs.Spans.{IsRequestAt, name_and_value, span_bytes}
use Rattle.httparse.specs.declared.spans.HeaderSpan.{HeaderSpan}
use Rattle.httparse.specs.declared.spans.RequestSpans.{RequestSpans}
use Rattle.httparse.specs.declared.spans.Span.{Span}
use Rattle.httparse.proofs.GrammarLemmas.{ReadsRequest-append}
use Rattle.http1.specs.Body.{Body, body_of}
use Rattle.http1.specs.Conn.{Plan, is_read, no_progress}
use Rattle.http1.specs.Decoder.{Completes, Continues, decoder_for, with_front}
use Rattle.http1.specs.Fields.{Header}
use Rattle.http1.specs.Message.{AcceptsRequest, ReadsRequestMessage, ReadsRequests, Request, known_of}
use Rattle.http1.specs.Server.{ReadsAt, ReadsHead as FindsHead, ReadsInBody, ServerReads, TakesHead, after_end, after_piece, closed_server, cycle_at, has_codings, new_server, reading, response_plan, responding, writing}
use Rattle.http1.specs.ServerTrace.{headers_at}
use Rattle.http1.specs.declared.conn.Event.{Event}
use Rattle.http1.specs.declared.conn.Event.TheVariants as event
use Rattle.http1.specs.declared.conn.Limits.{Limits}
use Rattle.http1.specs.declared.conn.Progress.{Progress}
use Rattle.http1.specs.declared.conn.Reading.{Reading}
use Rattle.http1.specs.declared.conn.Reading.TheVariants as reading_of
use Rattle.http1.specs.declared.conn.Writing.{Writing}
use Rattle.http1.specs.declared.conn.Writing.TheVariants as writing_of
use Rattle.http1.specs.declared.decode.Decoder.{Decoder}
use Rattle.http1.specs.declared.error.WriteError.{WriteError}
use Rattle.http1.specs.declared.server.Server.{Server}
use Rattle.http1.proofs.OneParse.{body_from_completes}
use Rattle.amo_door.specs.declared.answer.Answer.{Answer}
use Rattle.amo_door.specs.declared.call.Call.{Call}
use Rattle.amo_door.specs.declared.connection.Stage.{Stage}
use Rattle.amo_door.specs.declared.connection.Stage.TheVariants as stage
use Rattle.amo_door.specs.declared.connection.Step.{Step}
use Rattle.amo_door.specs.declared.connection.Step.TheVariants as step
use Rattle.amo_door.specs.declared.head.Reader.{Reader}
use Rattle.amo_door.specs.declared.refusal.Refusal.{Refusal}
use Rattle.amo_door.specs.Connection.{ConnectionState, Ends, Finishes, PassesOver, ReadsTheSame, Spells, SpellsAnswer, closed, counted, door_limits, limits_of, over, unused}
use Rattle.amo_door.specs.Requests.{AreRefused, HasRead, HasReadAt, IsAt, IsBetween, IsWithin, MayStep, ReadsCoded, ReadsHead, ReadsOn, StandBehind, WaitsBehind}
use Rattle.amo_door.specs.Spelling.{after_answer, after_head, answer_fault, answer_text, fields_of, size_of}

-- one more request is read behind others
requests_more : (limits : Limits) (came : List ℕ) (past : List Request) (middle : List ℕ) (one : Request) (rest : List ℕ) → ReadsRequests limits came past middle → ReadsRequestMessage limits middle one rest → ReadsRequests limits came (past ++ one ∷ []) rest
requests_more limits came [] middle one rest read next = (rest, subst (λ (text : List ℕ). ReadsRequestMessage limits text one rest) (sym read) next, refl)
requests_more limits came (first ∷ past) middle one rest (after, is, later) next = (after, is, requests_more limits after past middle one rest later next)

-- what stands behind requests goes on by what comes
stand_more : (came more : List ℕ) (past : List Request) (rest : List ℕ) → StandBehind came past rest → StandBehind (came ++ more) past (rest ++ more)
stand_more came more past rest stand last =
    subst (λ (text : List ℕ). ReadsRequests door_limits text past ((rest ++ more) ++ last)) (sym (append_assoc came more last))
    (subst (λ (text : List ℕ). ReadsRequests door_limits (came ++ (more ++ last)) past text) (sym (append_assoc rest more last)) (stand (more ++ last)))

-- what stands behind the requests that were read
front_within : (reader : Reader) (came : List ℕ) (past : List Request) (c : ConnectionState) (asks : Option (Result Call Refusal)) → WaitsBehind reader came past c asks → (rest : List ℕ) × StandBehind came past rest
front_within reader came past c None waits = (c.input, waits.1)
front_within reader came past c (Some asked) within = (within.front, within.before)

front_at : (at : Stage) (reader : Reader) (came : List ℕ) (past : List Request) (c : ConnectionState) → HasReadAt at reader came past c → (rest : List ℕ) × StandBehind came past rest
front_at stage.Reading reader came past c is = front_within reader came past c c.asks is.1
front_at stage.Asked reader came past c is = (c.input, is.3)
front_at stage.Following reader came past c is = is
front_at stage.Closing reader came past c is = is
front_at stage.Over reader came past c is = is

pub front_of : (reader : Reader) (came : List ℕ) (past : List Request) (c : ConnectionState) → HasRead reader came past c → (rest : List ℕ) × StandBehind came past rest
front_of reader came past c is = front_at c.stage reader came past c is

-- a connection that comes to its end has read what it had
pub read_at_end : (reader : Reader) (came : List ℕ) (past : List Request) (c : ConnectionState) → Ends c.stage → (rest : List ℕ) × StandBehind came past rest → HasRead reader came past c
read_at_end reader came past c (inl is) front = subst (λ (at : Stage). HasReadAt at reader came past c) (sym is) front
read_at_end reader came past c (inr is) front = subst (λ (at : Stage). HasReadAt at reader came past c) (sym is) front

-- no request was refused meanwhile
pub reads_none : (reader : Reader) (came : List ℕ) (past : List Request) (c : ConnectionState) → HasRead reader came past c → ReadsOn reader came past c
reads_none reader came past c is = record { refused = []; are_refused = tt; has_read = subst (λ (all : List Request). HasRead reader came all c) (sym (append-nil past)) is }

pub reads_none_at_end : (reader : Reader) (came : List ℕ) (past : List Request) (old c : ConnectionState) → Ends c.stage → HasRead reader came past old → ReadsOn reader came past c
reads_none_at_end reader came past old c ends is = reads_none reader came past c (read_at_end reader came past c ends (front_of reader came past old is))

-- at the end of what is read
pub ends_closed : (output : List ℕ) (new : ConnectionState) → new.stage ≡ (if length output == 0 then stage.Over else stage.Closing) → Ends new.stage
ends_closed output new is = subst Ends (sym is) (go (length output == 0))
  where
    go : (b : Bool) → Ends (if b then stage.Over else stage.Closing)
    go true = inr refl
    go false = inl refl

pub closed_ends : (old new : ConnectionState) → new ≡ closed old → Ends new.stage
closed_ends old new is = ends_closed old.output new (ap (λ (c : ConnectionState). c.stage) is)

-- one who reads the head of another request, or a part of a body
module _ (reader : Reader) (came : List ℕ) (past : List Request) where
  within_more : (c d : ConnectionState) (asked : Result Call Refusal) (more : List ℕ) → d ≡ record c { input = c.input ++ more } → IsWithin reader came past c asked → IsWithin reader (came ++ more) past d asked
  within_more c d asked more is within =
      subst (λ (x : ConnectionState). IsWithin reader (came ++ more) past x asked) (sym is) (record {
        front = within.front ++ more;
        before = stand_more came more past within.front within.before;
        head = within.head;
        asks = within.asks;
        decoder = within.decoder;
        decodes = within.decodes;
        goes_on = λ last body rest completes.
            subst (λ (text : List ℕ). ReadsRequests door_limits text (past ++ record { head = within.head; body = with_front c.body body } ∷ []) rest) (sym (append_assoc came more last))
            (within.goes_on (more ++ last) body rest (subst (λ (text : List ℕ). Completes within.decoder text body rest) (append_assoc c.input more last) completes));
      })

  waits_more : (c d : ConnectionState) (asks : Option (Result Call Refusal)) (more : List ℕ) → d ≡ record c { input = c.input ++ more } → WaitsBehind reader came past c asks → WaitsBehind reader (came ++ more) past d asks
  waits_more c d None more is waits =
      subst (λ (x : ConnectionState). WaitsBehind reader (came ++ more) past x None) (sym is) (waits.0, stand_more came more past c.input waits.1)
  waits_more c d (Some asked) more is within = within_more c d asked more is within

  -- more came
  read_more_at : (at : Stage) (c d : ConnectionState) (more : List ℕ) → d ≡ record c { input = c.input ++ more } → HasReadAt at reader came past c → HasReadAt at reader (came ++ more) past d
  read_more_at stage.Reading c d more is (limits, waits) =
      subst (λ (x : ConnectionState). HasReadAt stage.Reading reader (came ++ more) past x) (sym is) (limits, waits_more c (record c { input = c.input ++ more }) c.asks more refl waits)
  read_more_at stage.Asked c d more is (limits, at, none, stand) =
      subst (λ (x : ConnectionState). HasReadAt stage.Asked reader (came ++ more) past x) (sym is) (limits, at, none, stand_more came more past c.input stand)
  read_more_at stage.Following c d more is (rest, stand) = (rest ++ more, stand_more came more past rest stand)
  read_more_at stage.Closing c d more is (rest, stand) = (rest ++ more, stand_more came more past rest stand)
  read_more_at stage.Over c d more is (rest, stand) = (rest ++ more, stand_more came more past rest stand)

  pub read_more : (c d : ConnectionState) (more : List ℕ) → d ≡ record c { input = c.input ++ more } → HasRead reader came past c → HasRead reader (came ++ more) past d
  read_more c d more is has = subst (λ (at : Stage). HasReadAt at reader (came ++ more) past d) (sym (ap (λ (x : ConnectionState). x.stage) is)) (read_more_at c.stage c d more is has)

  -- what came behind a refusal is thrown away
  pub read_at_close : (c d : ConnectionState) (more : List ℕ) → Ends d.stage → HasRead reader came past c → HasRead reader (came ++ more) past d
  read_at_close c d more ends has =
      let (rest, stand) = front_of reader came past c has in
      read_at_end reader (came ++ more) past d ends (rest ++ more, stand_more came more past rest stand)

  -- a head came whole: what stands behind it is its body
  head_goes_on : (s new : Server) (input : List ℕ) (spans : List HeaderSpan) (len : ℕ) (r : RequestSpans) (t : TakesHead s input spans new len r) → limits_of s ≡ door_limits → StandBehind came past input
      → (more : List ℕ) (body : Body) (rest : List ℕ) → Completes (decoder_for s.limits t.framing) (drop len input ++ more) body rest → ReadsRequests door_limits (came ++ more) (past ++ record { head = t.head; body = body } ∷ []) rest
  head_goes_on s new input spans len r t limits stand more body rest completes =
      let accepts : AcceptsRequest door_limits input t.head t.framing (drop len input) = subst (λ (l : Limits). AcceptsRequest l input t.head t.framing (drop len input)) limits t.accepts in
      let completes_so : Completes (decoder_for door_limits t.framing) (drop len input ++ more) body rest = subst (λ (l : Limits). Completes (decoder_for l t.framing) (drop len input ++ more) body rest) limits completes in
      let one : ReadsRequestMessage door_limits (input ++ more) (record { head = t.head; body = body }) rest = record {
        framing = t.framing;
        after_head = drop len input ++ more;
        head = record { reads = ReadsRequest-append input t.head _ more accepts.reads; strict = accepts.strict; host = accepts.host; framed = accepts.framed };
        body = body_from_completes door_limits t.framing _ body rest completes_so;
      } in
      requests_more door_limits (came ++ more) past (input ++ more) (record { head = t.head; body = body }) rest (stand more) one

-- what is read of the spans of a head is what is read of the head
asks_head : (reader : Reader) (input : List ℕ) (spans : List HeaderSpan) (r : RequestSpans) (head : RequestHead) (coded : Bool) (read : Result Call Refusal) → IsRequestAt input spans r head → coded ≡ (known_of head.fields).other_coding
    → ReadsCoded coded reader (span_bytes input r.method) (span_bytes input r.path) (headers_at input spans r.headers) read → ReadsHead reader head read
asks_head reader input spans r head coded read covers is asks =
    subst (λ (b : Bool). ReadsCoded b reader head.method head.target (map name_and_value head.fields) read) is
    (subst (λ (m : List ℕ). ReadsCoded coded reader m head.target (map name_and_value head.fields) read) covers.method
    (subst (λ (p : List ℕ). ReadsCoded coded reader (span_bytes input r.method) p (map name_and_value head.fields) read) covers.path
    (subst (λ (f : List Header). ReadsCoded coded reader (span_bytes input r.method) (span_bytes input r.path) f read) covers.fields asks)))

-- where no answer was begun, a read changes what is read alone
abbrev piece_read : Server → List ℕ → Reading → Server
piece_read s input next = record s { reading = next; request = record (s.request) { expects_continue = s.request.expects_continue && ((length input == 0) && not (is_read next)) } }

pub piece_at : (s new : Server) (input : List ℕ) (next : Reading) → writing s ≡ writing_of.Head → new ≡ after_piece s input next → IsAt next new × (limits_of new ≡ limits_of s)
piece_at s new input next none is =
    let same : new ≡ piece_read s input next = is ∙ ap (λ (w : Writing). cycle_at w (piece_read s input next)) none in
    ((ap reading same, ap writing same ∙ none), ap limits_of same)

-- HTTP/1 behind an answer: it waits for a request, or has ended
abbrev IsReady : Server → Type 0
IsReady s = (limits_of s ≡ door_limits) × IsBetween s

end_ready : (s : Server) → reading s ≡ reading_of.Done → limits_of s ≡ door_limits → IsReady (after_end s)
end_ready s done limits = go s.request.keep_alive
  where
    go : (keep : Bool) → IsReady (cond keep (cond (is_read s.reading) (new_server s.limits) (record s { writing = writing_of.Done })) (closed_server (record s { writing = writing_of.Done })))
    go true = subst (λ (r : Reading). IsReady (cond (is_read r) (new_server s.limits) (record s { writing = writing_of.Done }))) (sym done) (limits, inl (refl, refl))
    go false = (limits, inr refl)

responds_so : (s : Server) (plan : Result Plan WriteError) → (reading (responding s plan) ≡ reading s) × (limits_of (responding s plan) ≡ limits_of s)
responds_so s (Ok plan) = (refl, refl)
responds_so s (Err fault) = (refl, refl)

pub answer_ready : (s new : Server) (answer : Answer) (closes : Bool) → IsAt reading_of.Done s → limits_of s ≡ door_limits → new ≡ after_answer s answer closes → IsReady new
answer_ready s new answer closes at limits is =
    let so = responds_so s (response_plan s answer.status (size_of answer) (fields_of answer closes)) in
    subst IsReady (sym is) (end_ready (after_head s answer closes) (so.0 ∙ at.0) (so.1 ∙ limits))

-- an event of a body
abbrev pub IsOfBody : Event RequestSpans → Type 0
IsOfBody (event.Data piece) = Unit {0}
IsOfBody (event.End count) = Unit {0}
IsOfBody _ = ⊥

-- none is found where a head is due, or HTTP/1 has ended
none_of_body : (old new : Server) (input : List ℕ) (spans : List HeaderSpan) (len : ℕ) (e : Event RequestSpans) → FindsHead old input spans new len e → ¬ (IsOfBody e)
none_of_body old new input spans len event.NeedMore found of_body = of_body
none_of_body old new input spans len (event.Head r) found of_body = of_body
none_of_body old new input spans len (event.Informational r) found of_body = of_body
none_of_body old new input spans len (event.Data piece) found of_body = found
none_of_body old new input spans len (event.End count) found of_body = found
none_of_body old new input spans len event.Paused found of_body = of_body
none_of_body old new input spans len event.Upgraded found of_body = of_body
none_of_body old new input spans len event.Closed found of_body = of_body

none_found : (old new : Server) (input : List ℕ) (spans : List HeaderSpan) (read : Progress RequestSpans) → IsBetween old → ServerReads old input spans new read → ¬ (IsOfBody read.event)
none_found old new input spans read (inl at) reads of_body =
    none_of_body old new input spans read.consumed read.event (subst (λ (now : Reading). ReadsAt now old input spans new read) at.0 reads) of_body
none_found old new input spans read (inr ended) reads of_body =
    let closed = subst (λ (now : Reading). ReadsAt now old input spans new read) ended reads in
    subst (λ (p : Progress RequestSpans). IsOfBody p.event) closed.0 of_body

-- what waits where a head was found, or a part of a body
module _ (reader : Reader) (came : List ℕ) (past : List Request) (old : ConnectionState) (new : Server) (spans : List HeaderSpan) where
  -- a head is found only where none was, and none is read
  pub head_found : (asks : Option (Result Call Refusal)) (len : ℕ) (r : RequestSpans) → WaitsBehind reader came past old asks → ServerReads old.server old.input spans new (record { consumed = len; event = event.Head r })
      → IsAt reading_of.Head old.server × StandBehind came past old.input × TakesHead old.server old.input spans new len r
  head_found None len r (inl at, stand) reads = (at, stand, subst (λ (now : Reading). ReadsAt now old.server old.input spans new (record { consumed = len; event = event.Head r })) at.0 reads)
  head_found None len r (inr ended, stand) reads = absurd (no (subst (λ (now : Reading). ReadsAt now old.server old.input spans new (record { consumed = len; event = event.Head r })) ended reads).0)
    where
      no : let p : Progress RequestSpans = record { consumed = len; event = event.Head r } in p ≡ no_progress event.Closed → ⊥
      no e = let same = ap (λ (x : Progress RequestSpans). x.event) e in cc
  head_found (Some asked) len r within reads = absurd (subst (λ (now : Reading). ReadsAt now old.server old.input spans new (record { consumed = len; event = event.Head r })) within.decodes.0 reads).1

  -- a part of a body, or its end, is found only within one
  pub piece_found : (asks : Option (Result Call Refusal)) (read : Progress RequestSpans) → WaitsBehind reader came past old asks → ServerReads old.server old.input spans new read → IsOfBody read.event
      → (asked : Result Call Refusal) × (asks ≡ Some asked) × (within : IsWithin reader came past old asked) × ReadsInBody within.decoder old.server old.input spans new read
  piece_found None read waits reads of_body = absurd (none_found old.server new old.input spans read waits.0 reads of_body)
  piece_found (Some asked) read within reads of_body = (asked, refl, within, subst (λ (now : Reading). ReadsAt now old.server old.input spans new read) within.decodes.0 reads)

-- what HTTP/1 read of a connection, by the event that was found
pub read_so : (old : ConnectionState) (server new : Server) (input : List ℕ) (spans : List HeaderSpan) (read : Progress RequestSpans) (e : Event RequestSpans) → server ≡ old.server → input ≡ old.input → read.event ≡ e → ServerReads server input spans new read
    → ServerReads old.server old.input spans new (record { consumed = read.consumed; event = e })
read_so old server new input spans read e server_is input_is found reads =
    subst (λ (x : Event RequestSpans). ServerReads old.server old.input spans new (record { consumed = read.consumed; event = x })) found
    (subst (λ (i : List ℕ). ServerReads old.server i spans new read) input_is (subst (λ (s : Server). ServerReads s input spans new read) server_is reads))

-- what is read of a body goes on
within_on : (reader : Reader) (came : List ℕ) (past : List Request) (old d : ConnectionState) (asked : Result Call Refusal) (within : IsWithin reader came past old asked) (next : Decoder) (len : ℕ) (piece : List ℕ)
    → Continues within.decoder old.input next len piece → d.input ≡ drop len old.input → d.body ≡ old.body ++ piece → IsAt (reading_of.Body next) d.server → IsWithin reader came past d asked
within_on reader came past old d asked within next len piece continues input body at = record {
  front = within.front;
  before = within.before;
  head = within.head;
  asks = within.asks;
  decoder = next;
  decodes = at;
  goes_on = λ more rest_of rest completes.
      let longer : old.body ++ (piece ++ rest_of.bytes) ≡ d.body ++ rest_of.bytes = sym (append_assoc old.body piece rest_of.bytes) ∙ ap (λ (b : List ℕ). b ++ rest_of.bytes) (sym body) in
      subst (λ (b : List ℕ). ReadsRequests door_limits (came ++ more) (past ++ record { head = within.head; body = record { bytes = b; trailers = rest_of.trailers } } ∷ []) rest) longer
      (within.goes_on more (with_front piece rest_of) rest (continues.back more rest_of rest (subst (λ (i : List ℕ). Completes next (i ++ more) rest_of rest) input completes)));
}

-- at one who reads
module _ (reader : Reader) (came : List ℕ) (past : List Request) where
  while_reading : (c : ConnectionState) → c.stage ≡ stage.Reading → HasRead reader came past c → (limits_of c.server ≡ door_limits) × WaitsBehind reader came past c c.asks
  while_reading c is has = subst (λ (at : Stage). HasReadAt at reader came past c) is has

  has_read_so : (c : ConnectionState) (asks : Option (Result Call Refusal)) → c.stage ≡ stage.Reading → c.asks ≡ asks → limits_of c.server ≡ door_limits → WaitsBehind reader came past c asks → HasRead reader came past c
  has_read_so c asks is asks_is limits waits =
      subst (λ (at : Stage). HasReadAt at reader came past c) (sym is) (limits, subst (λ (a : Option (Result Call Refusal)). WaitsBehind reader came past c a) (sym asks_is) waits)

  -- it reads on the same
  same_between : (s t : Server) → reading t ≡ reading s → writing t ≡ writing s → IsBetween s → IsBetween t
  same_between s t reads writes (inl at) = inl (reads ∙ at.0, writes ∙ at.1)
  same_between s t reads writes (inr ended) = inr (reads ∙ ended)

  same_waits : (c d : ConnectionState) (asks : Option (Result Call Refusal)) → ReadsTheSame c d → WaitsBehind reader came past c asks → WaitsBehind reader came past d asks
  same_waits c d None same waits =
      (same_between c.server d.server same.reads same.writes waits.0, subst (StandBehind came past) (sym (ap (λ (x : ConnectionState). x.input) same.kept)) waits.1)
  same_waits c d (Some asked) same within =
      let input : d.input ≡ c.input = ap (λ (x : ConnectionState). x.input) same.kept in
      let body : d.body ≡ c.body = ap (λ (x : ConnectionState). x.body) same.kept in
      record {
        front = within.front;
        before = within.before;
        head = within.head;
        asks = within.asks;
        decoder = within.decoder;
        decodes = (same.reads ∙ within.decodes.0, same.writes ∙ within.decodes.1);
        goes_on = λ more rest_of rest completes.
            subst (λ (b : List ℕ). ReadsRequests door_limits (came ++ more) (past ++ record { head = within.head; body = with_front b rest_of } ∷ []) rest) (sym body)
            (within.goes_on more rest_of rest (subst (λ (i : List ℕ). Completes within.decoder (i ++ more) rest_of rest) input completes));
      }

  same_read : (c d : ConnectionState) → c.stage ≡ stage.Reading → ReadsTheSame c d → HasRead reader came past c → HasRead reader came past d
  same_read c d is same has =
      let was = while_reading c is has in
      has_read_so d c.asks (ap (λ (x : ConnectionState). x.stage) same.kept ∙ is) (ap (λ (x : ConnectionState). x.asks) same.kept) (same.limits ∙ was.0) (same_waits c d c.asks same was.1)

  -- what was read ends there, or goes on the same
  pub ends_or_goes : (old c d : ConnectionState) → c.stage ≡ stage.Reading → HasRead reader came past old → HasRead reader came past c → Ends d.stage ⊎ ReadsTheSame c d → ReadsOn reader came past d
  ends_or_goes old c d is was has (inl ends) = reads_none_at_end reader came past old d ends was
  ends_or_goes old c d is was has (inr same) = reads_none reader came past d (same_read c d is same has)

  -- the head of a request was read
  head_within : (old d : ConnectionState) (server : Server) (spans : List HeaderSpan) (len : ℕ) (r : RequestSpans) (asked : Result Call Refusal) → limits_of old.server ≡ door_limits → WaitsBehind reader came past old old.asks
      → ServerReads old.server old.input spans server (record { consumed = len; event = event.Head r }) → ReadsCoded (has_codings server) reader (span_bytes old.input r.method) (span_bytes old.input r.path) (headers_at old.input spans r.headers) asked
      → d.input ≡ drop len old.input → d.body ≡ [] → d.server ≡ server → (limits_of d.server ≡ door_limits) × IsWithin reader came past d asked
  head_within old d server spans len r asked limits waits reads coded input body is =
      let (at, stand, t) = head_found reader came past old server spans old.asks len r waits reads in
      let next = is ∙ t.next in (
        ap limits_of next ∙ limits,
        record {
          front = old.input;
          before = stand;
          head = t.head;
          asks = asks_head reader old.input spans r t.head (has_codings server) asked t.covered (ap has_codings t.next) coded;
          decoder = decoder_for old.server.limits t.framing;
          decodes = (ap reading next, ap writing next ∙ at.1);
          goes_on = λ more rest_of rest completes.
              subst (λ (b : List ℕ). ReadsRequests door_limits (came ++ more) (past ++ record { head = t.head; body = with_front b rest_of } ∷ []) rest) (sym body)
              (head_goes_on reader came past old.server server old.input spans len r t limits stand more rest_of rest
              (subst (λ (i : List ℕ). Completes (decoder_for old.server.limits t.framing) (i ++ more) rest_of rest) input completes));
        },
      )

  head_asked : (old d : ConnectionState) (server : Server) (spans : List HeaderSpan) (len : ℕ) (r : RequestSpans) (asks : Option (Result Call Refusal)) → limits_of old.server ≡ door_limits → WaitsBehind reader came past old old.asks
      → ServerReads old.server old.input spans server (record { consumed = len; event = event.Head r })
      → IfSome asks (ReadsCoded (has_codings server) reader (span_bytes old.input r.method) (span_bytes old.input r.path) (headers_at old.input spans r.headers)) × IsSome asks
      → d.input ≡ drop len old.input → d.body ≡ [] → d.server ≡ server → (limits_of d.server ≡ door_limits) × WaitsBehind reader came past d asks
  head_asked old d server spans len r None limits waits reads coded input body is = absurd (false≢true coded.1)
  head_asked old d server spans len r (Some asked) limits waits reads coded input body is = head_within old d server spans len r asked limits waits reads coded.0 input body is

  pub head_on : (old before begun dropped gone : ConnectionState) (server : Server) (spans : List HeaderSpan) (len : ℕ) (r : RequestSpans) → before ≡ old → old.stage ≡ stage.Reading → HasRead reader came past old
      → ServerReads old.server old.input spans server (record { consumed = len; event = event.Head r }) → len ≤ length old.input
      → begun ≡ record before { server = server; wants_head = begun.wants_head; has_begun = true; asks = begun.asks; body = [] }
      → IfSome begun.asks (ReadsCoded (has_codings server) reader (span_bytes before.input r.method) (span_bytes before.input r.path) (headers_at before.input spans r.headers)) × IsSome begun.asks
      → dropped ≡ record begun { input = drop (min len (length begun.input)) begun.input } → Ends gone.stage ⊎ ReadsTheSame dropped gone → ReadsOn reader came past gone
  head_on old before begun dropped gone server spans len r same is has reads within begins coded drops goes =
      let was = while_reading old is has in
      let input : begun.input ≡ old.input = ap (λ (x : ConnectionState). x.input) begins ∙ ap (λ (x : ConnectionState). x.input) same in
      let count : min len (length begun.input) ≡ len = let fits = ap (λ (l : List ℕ). length l) input in omega (arith, within, fits) in
      let rest : dropped.input ≡ drop len old.input = ap (λ (x : ConnectionState). x.input) drops ∙ (ap (λ (n : ℕ). drop n begun.input) count ∙ ap (drop len) input) in
      let body : dropped.body ≡ [] = ap (λ (x : ConnectionState). x.body) drops ∙ ap (λ (x : ConnectionState). x.body) begins in
      let server_is : dropped.server ≡ server = ap (λ (x : ConnectionState). x.server) drops ∙ ap (λ (x : ConnectionState). x.server) begins in
      let at : dropped.stage ≡ stage.Reading = ap (λ (x : ConnectionState). x.stage) drops ∙ (ap (λ (x : ConnectionState). x.stage) begins ∙ (ap (λ (x : ConnectionState). x.stage) same ∙ is)) in
      let asks : dropped.asks ≡ begun.asks = ap (λ (x : ConnectionState). x.asks) drops in
      let coded_so = subst (λ (x : ConnectionState). IfSome begun.asks (ReadsCoded (has_codings server) reader (span_bytes x.input r.method) (span_bytes x.input r.path) (headers_at x.input spans r.headers)) × IsSome begun.asks) same coded in
      let (limits, waits) = head_asked old dropped server spans len r begun.asks was.0 was.1 reads coded_so rest body server_is in
      ends_or_goes old dropped gone at has (has_read_so dropped begun.asks at asks limits waits) goes

  -- where it was asked, a part of its body was read
  drop_all : (len : ℕ) (text same : List ℕ) → same ≡ text → len ≤ length text → drop (min len (length same)) same ≡ drop len text
  drop_all len text same is within =
      let fits = ap (λ (l : List ℕ). length l) is in let count : min len (length same) ≡ len = omega (arith, within, fits) in
      ap (λ (n : ℕ). drop n same) count ∙ ap (drop len) is

  pub data_on : (old before kept dropped : ConnectionState) (server : Server) (spans : List HeaderSpan) (len : ℕ) (piece : Span) → before ≡ old → old.stage ≡ stage.Reading → HasRead reader came past old
      → ServerReads old.server old.input spans server (record { consumed = len; event = event.Data piece }) → len ≤ length old.input
      → Ends kept.stage ⊎ (kept ≡ record before { server = server; body = before.body ++ span_bytes before.input piece })
      → dropped ≡ record kept { input = drop (min len (length kept.input)) kept.input } → ReadsOn reader came past dropped
  data_on old before kept dropped server spans len piece same is has reads fits (inl ends) drops =
      reads_none_at_end reader came past old dropped (subst Ends (sym (ap (λ (x : ConnectionState). x.stage) drops)) ends) has
  data_on old before kept dropped server spans len piece same is has reads fits (inr keeps) drops =
      let was = while_reading old is has in
      let (asked, asks, within, in_body) = piece_found reader came past old server spans old.asks (record { consumed = len; event = event.Data piece }) was.1 reads tt in
      let found = in_body.1 in
      let at = piece_at old.server server old.input in_body.0 within.decodes.1 in_body.2 in
      let server_is : dropped.server ≡ server = ap (λ (x : ConnectionState). x.server) drops ∙ ap (λ (x : ConnectionState). x.server) keeps in
      let input : kept.input ≡ old.input = ap (λ (x : ConnectionState). x.input) keeps ∙ ap (λ (x : ConnectionState). x.input) same in
      let rest : dropped.input ≡ drop len old.input = ap (λ (x : ConnectionState). x.input) drops ∙ drop_all len old.input kept.input input fits in
      let body : dropped.body ≡ old.body ++ span_bytes old.input piece =
      ap (λ (x : ConnectionState). x.body) drops ∙ (ap (λ (x : ConnectionState). x.body) keeps ∙ ap (λ (x : ConnectionState). x.body ++ span_bytes x.input piece) same) in
      let asks_is : dropped.asks ≡ Some asked = ap (λ (x : ConnectionState). x.asks) drops ∙ (ap (λ (x : ConnectionState). x.asks) keeps ∙ (ap (λ (x : ConnectionState). x.asks) same ∙ asks)) in
      let stage_is : dropped.stage ≡ stage.Reading = ap (λ (x : ConnectionState). x.stage) drops ∙ (ap (λ (x : ConnectionState). x.stage) keeps ∙ (ap (λ (x : ConnectionState). x.stage) same ∙ is)) in
      let continues : Continues within.decoder old.input found.0 len (span_bytes old.input piece) = subst (λ (n : ℕ). Continues within.decoder old.input found.0 n (span_bytes old.input piece)) (sym found.2) found.4 in
      let decodes : IsAt (reading_of.Body found.0) dropped.server = (ap reading server_is ∙ (at.0.0 ∙ found.1), ap writing server_is ∙ at.0.1) in
      reads_none reader came past dropped (has_read_so dropped (Some asked) stage_is asks_is (ap limits_of server_is ∙ (at.1 ∙ was.0))
      (within_on reader came past old dropped asked within found.0 len (span_bytes old.input piece) continues rest body decodes))

  -- it waits for more
  needs_at : (old dropped : ConnectionState) (server : Server) (spans : List HeaderSpan) (len : ℕ) (asks : Option (Result Call Refusal)) → limits_of old.server ≡ door_limits → WaitsBehind reader came past old asks
      → ServerReads old.server old.input spans server (record { consumed = len; event = event.NeedMore }) → dropped ≡ record old { server = server; input = drop len old.input }
      → (limits_of dropped.server ≡ door_limits) × WaitsBehind reader came past dropped asks
  needs_at old dropped server spans len None limits (inl at, stand) reads is =
      let found = subst (λ (now : Reading). ReadsAt now old.server old.input spans server (record { consumed = len; event = event.NeedMore })) at.0 reads in
      let same : dropped.server ≡ old.server = ap (λ (x : ConnectionState). x.server) is ∙ found.1 in
      let input : dropped.input ≡ old.input = ap (λ (x : ConnectionState). x.input) is ∙ ap (λ (n : ℕ). drop n old.input) found.0 in
      (ap limits_of same ∙ limits, (inl (ap reading same ∙ at.0, ap writing same ∙ at.1), subst (StandBehind came past) (sym input) stand))
  needs_at old dropped server spans len None limits (inr ended, stand) reads is =
      absurd (no (subst (λ (now : Reading). ReadsAt now old.server old.input spans server (record { consumed = len; event = event.NeedMore })) ended reads).0)
    where
      no : let p : Progress RequestSpans = record { consumed = len; event = event.NeedMore } in p ≡ no_progress event.Closed → ⊥
      no e = let same = ap (λ (x : Progress RequestSpans). x.event) e in cc
  needs_at old dropped server spans len (Some asked) limits within reads is =
      let in_body : ReadsInBody within.decoder old.server old.input spans server (record { consumed = len; event = event.NeedMore }) =
      subst (λ (now : Reading). ReadsAt now old.server old.input spans server (record { consumed = len; event = event.NeedMore })) within.decodes.0 reads in
      let found = in_body.1 in
      let at = piece_at old.server server old.input in_body.0 within.decodes.1 in_body.2 in
      let server_is : dropped.server ≡ server = ap (λ (x : ConnectionState). x.server) is in
      let decodes : IsAt (reading_of.Body found.0) dropped.server = (ap reading server_is ∙ (at.0.0 ∙ found.1), ap writing server_is ∙ at.0.1) in (
        ap limits_of server_is ∙ (at.1 ∙ limits),
        within_on reader came past old dropped asked within found.0 len [] found.2.continues (ap (λ (x : ConnectionState). x.input) is) (ap (λ (x : ConnectionState). x.body) is ∙ sym (append-nil old.body)) decodes,
      )

  pub needs_on : (old before dropped new : ConnectionState) (server : Server) (spans : List HeaderSpan) (len : ℕ) → before ≡ old → old.stage ≡ stage.Reading → HasRead reader came past old
      → ServerReads old.server old.input spans server (record { consumed = len; event = event.NeedMore }) → len ≤ length old.input
      → dropped ≡ record before { server = server; input = drop (min len (length before.input)) before.input } → (ended : Bool) → new ≡ (if ended then closed dropped else dropped) → ReadsOn reader came past new
  needs_on old before dropped new server spans len same is has reads fits drops true ends = reads_none_at_end reader came past old new (closed_ends dropped new ends) has
  needs_on old before dropped new server spans len same is has reads fits drops false goes =
      let was = while_reading old is has in
      let input : drop (min len (length before.input)) before.input ≡ drop len old.input = drop_all len old.input before.input (ap (λ (x : ConnectionState). x.input) same) fits in
      let all : new ≡ record old { server = server; input = drop len old.input } =
      goes ∙ (drops ∙ (ap (λ (i : List ℕ). record before { server = server; input = i }) input ∙ ap (λ (x : ConnectionState). record x { server = server; input = drop len old.input }) same)) in
      let waits = needs_at old new server spans len old.asks was.0 was.1 reads all in
      reads_none reader came past new (has_read_so new old.asks (ap (λ (x : ConnectionState). x.stage) all ∙ is) (ap (λ (x : ConnectionState). x.asks) all) waits.0 waits.1)

  -- a request came whole, and so did its body
  ended_at : (old dropped : ConnectionState) (server : Server) (spans : List HeaderSpan) (len count : ℕ) (asked : Result Call Refusal) (within : IsWithin reader came past old asked)
      → ReadsInBody within.decoder old.server old.input spans server (record { consumed = len; event = event.End count }) → dropped.server ≡ server → dropped.input ≡ drop len old.input
      → (request : Request) × (old.body ≡ request.body.bytes) × ReadsHead reader request.head asked × StandBehind came (past ++ request ∷ []) dropped.input × IsAt reading_of.Done dropped.server × (limits_of dropped.server ≡ limits_of old.server)
  ended_at old dropped server spans len count asked within in_body server_is input =
      let ends = in_body.1.1 in
      let at = piece_at old.server server old.input in_body.0 within.decodes.1 in_body.2 in
      let request : Request = record { head = within.head; body = with_front old.body (body_of [] ends.trailers) } in (
        request,
        sym (append-nil old.body),
        within.asks,
        λ more. subst (λ (i : List ℕ). ReadsRequests door_limits (came ++ more) (past ++ request ∷ []) (i ++ more)) (sym input) (within.goes_on more (body_of [] ends.trailers) (drop len old.input ++ more) (ends.completes more)),
        (ap reading server_is ∙ (at.0.0 ∙ in_body.1.0), ap writing server_is ∙ at.0.1),
        ap limits_of server_is ∙ at.1,
      )

  finished_so : (old dropped new : ConnectionState) (asked : Result Call Refusal) (request : Request) (result : Option Step) → dropped.asks ≡ Some asked → dropped.stage ≡ stage.Reading → limits_of dropped.server ≡ door_limits → dropped.body ≡ request.body.bytes
      → ReadsHead reader request.head asked → StandBehind came (past ++ request ∷ []) dropped.input → IsAt reading_of.Done dropped.server → HasRead reader came past old → Finishes dropped new result → MayStep reader came past new result
  finished_so old dropped new asked request None asks is limits body says stand at has (inl (none, same)) = absurd (no (sym asks ∙ none))
    where
      no : let o : Option (Result Call Refusal) = Some asked in o ≡ None → ⊥
      no e = cc
  finished_so old dropped new asked request None asks is limits body says stand at has (inr (why, refused, ends)) =
      let same : asked ≡ Err why = cc in
      record {
        refused = request ∷ [];
        are_refused = ((why, subst (ReadsHead reader request.head) same says), tt);
        has_read = passed ends;
      }
    where
      passed : Ends new.stage ⊎ PassesOver (record dropped { has_begun = false; asks = None }) new → HasRead reader came (past ++ request ∷ []) new
      passed (inl over) = read_at_end reader came (past ++ request ∷ []) new over (dropped.input, stand)
      passed (inr passes) =
          let ready = answer_ready dropped.server new.server passes.answer false at limits passes.server in
          subst (λ (s : Stage). HasReadAt s reader came (past ++ request ∷ []) new) (sym (passes.stage ∙ is))
          (ready.0, subst (λ (a : Option (Result Call Refusal)). WaitsBehind reader came (past ++ request ∷ []) new a) (sym passes.asks) (ready.1, subst (StandBehind came (past ++ request ∷ [])) (sym passes.input) stand))
  finished_so old dropped new asked request (Some (step.Call called message)) asks is limits body says stand at has (was, brings, same) =
      let call : asked ≡ Ok called = cc in
      let at_new : HasReadAt stage.Asked reader came ((past ++ []) ++ request ∷ []) new =
      subst (λ (x : ConnectionState). HasReadAt stage.Asked reader came ((past ++ []) ++ request ∷ []) x) (sym same)
      (limits, at, refl, subst (λ (all : List Request). StandBehind came (all ++ request ∷ []) dropped.input) (sym (append-nil past)) stand) in
      record {
        refused = [];
        are_refused = tt;
        request = request;
        asks = subst (ReadsHead reader request.head) call says;
        brings = brings ∙ body;
        has_read = subst (λ (s : Stage). HasReadAt s reader came ((past ++ []) ++ request ∷ []) new) (sym (ap (λ (x : ConnectionState). x.stage) same)) at_new;
      }
  finished_so old dropped new asked request (Some step.Wait) asks is limits body says stand at has ends = reads_none_at_end reader came past old new ends has
  finished_so old dropped new asked request (Some step.Over) asks is limits body says stand at has ends = reads_none_at_end reader came past old new ends has

  pub end_on : (old before dropped new : ConnectionState) (server : Server) (spans : List HeaderSpan) (len count : ℕ) (result : Option Step) → before ≡ old → old.stage ≡ stage.Reading → HasRead reader came past old
      → ServerReads old.server old.input spans server (record { consumed = len; event = event.End count }) → len ≤ length old.input
      → dropped ≡ record before { server = server; input = drop (min len (length before.input)) before.input } → Finishes dropped new result → MayStep reader came past new result
  end_on old before dropped new server spans len count result same is has reads fits drops finishes =
      let was = while_reading old is has in
      let (asked, asks, within, in_body) = piece_found reader came past old server spans old.asks (record { consumed = len; event = event.End count }) was.1 reads tt in
      let server_is : dropped.server ≡ server = ap (λ (x : ConnectionState). x.server) drops in
      let input : dropped.input ≡ drop len old.input = ap (λ (x : ConnectionState). x.input) drops ∙ drop_all len old.input before.input (ap (λ (x : ConnectionState). x.input) same) fits in
      let (request, body, says, stand, at, limits) = ended_at old dropped server spans len count asked within in_body server_is input in
      let asks_is : dropped.asks ≡ Some asked = ap (λ (x : ConnectionState). x.asks) drops ∙ (ap (λ (x : ConnectionState). x.asks) same ∙ asks) in
      let stage_is : dropped.stage ≡ stage.Reading = ap (λ (x : ConnectionState). x.stage) drops ∙ (ap (λ (x : ConnectionState). x.stage) same ∙ is) in
      let body_is : dropped.body ≡ request.body.bytes = ap (λ (x : ConnectionState). x.body) drops ∙ (ap (λ (x : ConnectionState). x.body) same ∙ body) in
      finished_so old dropped new asked request result asks_is stage_is (limits ∙ was.0) body_is says stand at has finishes

-- reading on behind what was read
all_refused : (reader : Reader) (one two : List Request) → AreRefused reader one → AreRefused reader two → AreRefused reader (one ++ two)
all_refused reader [] two first next = next
all_refused reader (request ∷ one) two first next = (first.0, all_refused reader one two first.1 next)

module _ (reader : Reader) (came : List ℕ) (past : List Request) (middle new : ConnectionState) (first : ReadsOn reader came past middle) where
  pub reads_behind : ReadsOn reader came (past ++ first.refused) new → ReadsOn reader came past new
  reads_behind next = record {
    refused = first.refused ++ next.refused;
    are_refused = all_refused reader first.refused next.refused first.are_refused next.are_refused;
    has_read = subst (λ (all : List Request). HasRead reader came all new) (append_assoc past first.refused next.refused) next.has_read;
  }

  pub steps_behind : (taken : Option Step) → MayStep reader came (past ++ first.refused) new taken → MayStep reader came past new taken
  steps_behind None next = reads_behind next
  steps_behind (Some (step.Call asked message)) next = record {
    refused = first.refused ++ next.refused;
    are_refused = all_refused reader first.refused next.refused first.are_refused next.are_refused;
    request = next.request;
    asks = next.asks;
    brings = next.brings;
    has_read = subst (λ (all : List Request). HasRead reader came (all ++ next.request ∷ []) new) (append_assoc past first.refused next.refused) next.has_read;
  }
  steps_behind (Some step.Wait) next = reads_behind next
  steps_behind (Some step.Over) next = reads_behind next

-- an answer was written: the next request is read, or none
pub answered_read : (reader : Reader) (came : List ℕ) (past : List Request) (old new : ConnectionState) (answer : Answer) → old.stage ≡ stage.Asked → HasRead reader came past old
    → new.stage ≡ stage.Reading → new.server ≡ after_answer old.server answer false → new.input ≡ old.input → new.asks ≡ old.asks → HasRead reader came past new
answered_read reader came past old new answer was has is server input asks =
    let (limits, at, none, stand) = subst (λ (s : Stage). HasReadAt s reader came past old) was has in
    let ready = answer_ready old.server new.server answer false at limits server in
    subst (λ (s : Stage). HasReadAt s reader came past new) (sym is)
    (ready.0, subst (λ (a : Option (Result Call Refusal)). WaitsBehind reader came past new a) (sym (asks ∙ none)) (ready.1, subst (StandBehind came past) (sym input) stand))

pub answered_on : (reader : Reader) (came : List ℕ) (past : List Request) (old new : ConnectionState) (answer : Answer) → old.stage ≡ stage.Asked → HasRead reader came past old → SpellsAnswer answer false old new
    → (new ≡ counted (record old { stage = stage.Reading }) new.output new.server) ⊎ (new ≡ over (counted (record old { stage = stage.Reading }) new.output new.server)) → HasRead reader came past new
answered_on reader came past old new answer was has spelt (inr is) = read_at_end reader came past new (inr (ap (λ (c : ConnectionState). c.stage) is)) (front_of reader came past old has)
answered_on reader came past old new answer was has spelt (inl is) = go (answer_fault old.server answer old.wants_head false) spelt
  where
    go : (fault : Option WriteError) → Spells fault (answer_text old.server answer old.wants_head false) (after_answer old.server answer false) old.output new → HasRead reader came past new
    go (Some fault) ends = read_at_end reader came past new ends (front_of reader came past old has)
    go None (output, server) =
        answered_read reader came past old new answer was has (ap (λ (c : ConnectionState). c.stage) is) server (ap (λ (c : ConnectionState). c.input) is) (ap (λ (c : ConnectionState). c.asks) is)

-- one who follows is let go, or follows on
pub follows_read : (reader : Reader) (came : List ℕ) (past : List Request) (old new : ConnectionState) (ended : Bool) → old.stage ≡ stage.Following → new ≡ (if ended then closed old else old) → HasRead reader came past old → ReadsOn reader came past new
follows_read reader came past old new true is ends has = reads_none_at_end reader came past old new (closed_ends old new ends) has
follows_read reader came past old new false is same has = reads_none reader came past new (subst (HasRead reader came past) (sym same) has)

-- nothing came yet
pub none_read : (reader : Reader) → HasRead reader [] [] unused
none_read reader = (refl, (inl (refl, refl), λ more. refl))
