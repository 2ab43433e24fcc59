-- The bytes of answers, by a state of the server of HTTP/1.
use Rattle.std.specs.Prelude.{◌≡◌, ◌⊎◌, ℕ, Bool, if◌then◌else◌, Option, None, Some, Result, Err, IfErr, List, [], ◌∷◌, ◌++◌, length, ◌==◌, codes}
use Rattle.std.specs.Fmt.{decimal}
use Rattle.std.specs.Option.{option_or}
use Rattle.http1.specs.Conn.{after_data, data_refusal, data_text, finish_refusal, finish_text}
use Rattle.http1.specs.Fields.{Header}
use Rattle.http1.specs.Server.{after_end, after_response, planned_response, response_refusal, writing}
use Rattle.http1.specs.declared.conn.BodySize.{BodySize}
use Rattle.http1.specs.declared.conn.BodySize.TheVariants.{Empty, Known}
use Rattle.http1.specs.declared.conn.Writing.{Writing}
use Rattle.http1.specs.declared.error.WriteError.{WriteError}
use Rattle.http1.specs.declared.error.WriteError.TheVariants.{OutOfMemory}
use Rattle.http1.specs.declared.server.Server.{Server}
use Rattle.amo_door.specs.declared.answer.Answer.{Answer}
use Rattle.amo_door.specs.declared.answer.Extra.{Extra}
use Rattle.amo_door.specs.declared.answer.Extra.TheVariants as extra
use Rattle.amo_door.specs.declared.answer.Kind.{Kind}
use Rattle.amo_door.specs.declared.answer.Kind.TheVariants as kind
use Rattle.amo_door.specs.Answer.{type_of}
use Rattle.amo_door.specs.Place.{methods_of}

-- what a status means, in a word or two (RFC 9110, section 15; RFC 6585 for 431)
abbrev pub reason_of : ℕ → List ℕ
reason_of status =
    if status == 200 then codes "OK"
    else (if status == 201 then codes "Created"
    else (if status == 204 then codes "No Content"
    else (if status == 400 then codes "Bad Request"
    else (if status == 401 then codes "Unauthorized"
    else (if status == 403 then codes "Forbidden"
    else (if status == 404 then codes "Not Found"
    else (if status == 405 then codes "Method Not Allowed"
    else (if status == 408 then codes "Request Timeout"
    else (if status == 409 then codes "Conflict"
    else (if status == 410 then codes "Gone"
    else (if status == 413 then codes "Content Too Large"
    else (if status == 414 then codes "URI Too Long"
    else (if status == 421 then codes "Misdirected Request"
    else (if status == 431 then codes "Request Header Fields Too Large"
    else (if status == 500 then codes "Internal Server Error"
    else (if status == 501 then codes "Not Implemented"
    else (if status == 503 then codes "Service Unavailable" else codes "Unknown")))))))))))))))))

-- the fields of each answer: it is not to be kept, nor taken for anything but what its type says
abbrev pub common_fields : List Header
common_fields = (codes "cache-control", codes "no-store") ∷ (codes "x-content-type-options", codes "nosniff") ∷ []

-- the field that says the type of a body, where there is one
abbrev pub type_fields : Kind → List Header
type_fields kind.None = []
type_fields of = (codes "content-type", type_of of) ∷ []

-- the fields that say what a browser may do with a page: ask the door, and run what stands in it; no other page has it in a frame
abbrev pub page_fields : Kind → List Header
page_fields kind.Page =
    (codes "x-frame-options", codes "DENY")
    ∷ (codes "content-security-policy", codes "default-src 'none'; script-src 'unsafe-inline'; style-src 'unsafe-inline'; connect-src 'self'; img-src data:; form-action 'none'; base-uri 'none'; frame-ancestors 'none'")
    ∷ []
page_fields _ = []

-- the fields that say where the message that is the body stands
abbrev pub place_fields : ℕ → ℕ → ℕ → ℕ → List Header
place_fields stream number position line =
    (codes "amo-stream", decimal stream) ∷ (codes "amo-number", decimal number) ∷ (codes "amo-position", decimal position) ∷ (codes "amo-line", decimal line) ∷ []

-- the fields of what the head says beside the body
abbrev pub extra_fields : Extra → List Header
extra_fields extra.None = []
extra_fields (extra.Allow place) = (codes "allow", methods_of place) ∷ []
extra_fields (extra.RetryAfter seconds) = (codes "retry-after", decimal seconds) ∷ []
extra_fields extra.Authenticate = (codes "www-authenticate", codes "Bearer") ∷ []
extra_fields (extra.Message stream number place) = place_fields stream number place.position place.line

-- the field that says that this answer is the last one
abbrev pub close_fields : Bool → List Header
close_fields closes = if closes then (codes "connection", codes "close") ∷ [] else []

-- the fields of an answer
abbrev pub fields_of : Answer → Bool → List Header
fields_of answer closes = common_fields ++ (type_fields answer.kind ++ (page_fields answer.kind ++ (extra_fields answer.extra ++ close_fields closes)))

-- the size of a body, by its kind and how many bytes it has
abbrev pub size_at : Kind → ℕ → BodySize
size_at kind.None bytes = Empty
size_at _ bytes = Known bytes

abbrev pub size_of : Answer → BodySize
size_of answer = size_at answer.kind (length answer.body.items)

-- what is sent of a body: nothing where the request asked for the head alone
abbrev pub sent_body : Bool → List ℕ → List ℕ
sent_body is_head body = if is_head then [] else body

-- a body as it is written
abbrev pub body_text : Writing → List ℕ → List ℕ
body_text writes body = if length body == 0 then [] else data_text writes body

-- what is written behind a body
abbrev pub behind_body : Writing → List ℕ → Writing
behind_body writes body = if length body == 0 then writes else after_data writes (length body)

-- a body and the end of its answer
abbrev pub rest_text : Writing → List ℕ → List ℕ
rest_text writes body = body_text writes body ++ finish_text (behind_body writes body) []

-- the head of an answer
abbrev pub head_text : Server → Answer → Bool → List ℕ
head_text server answer closes = planned_response server answer.status (reason_of answer.status) (size_of answer) (fields_of answer closes)

-- the server behind it
abbrev pub after_head : Server → Answer → Bool → Server
after_head server answer closes = after_response server answer.status (size_of answer) (fields_of answer closes)

-- what of it is being written
abbrev pub behind_head : Server → Answer → Bool → Writing
behind_head server answer closes = writing (after_head server answer closes)

-- an answer, to a request that asked for the head alone or not, and that is the last one or not
abbrev pub answer_text : Server → Answer → Bool → Bool → List ℕ
answer_text server answer is_head closes =
    head_text server answer closes ++ rest_text (behind_head server answer closes) (sent_body is_head answer.body.items)

-- the server once it was written
abbrev pub after_answer : Server → Answer → Bool → Server
after_answer server answer closes = after_end (after_head server answer closes)

-- why a body is refused, if it is
abbrev pub body_fault : Writing → List ℕ → Option WriteError
body_fault writes body = if length body == 0 then None else data_refusal writes (length body)

-- why a body or the end of its answer is refused, if one is
abbrev pub rest_fault : Writing → List ℕ → Option WriteError
rest_fault writes body = option_or (body_fault writes body) (finish_refusal (behind_body writes body) [])

-- why the head of an answer is refused, if it is
abbrev pub head_fault : Server → Answer → Bool → Option WriteError
head_fault server answer closes = response_refusal server answer.status (reason_of answer.status) (size_of answer) (fields_of answer closes)

-- why an answer cannot be spelt, if it cannot
abbrev pub answer_fault : Server → Answer → Bool → Bool → Option WriteError
answer_fault server answer is_head closes =
    option_or (head_fault server answer closes) (rest_fault (behind_head server answer closes) (sent_body is_head answer.body.items))

-- what writing comes to: it fails where there is a fault, or where memory is refused
abbrev pub Writes : {T : Type 0} → Option WriteError → Result T WriteError → Type 0
Writes None result = IfErr result (λ e. e ≡ OutOfMemory)
Writes (Some fault) result = (result ≡ Err fault) ⊎ (result ≡ Err OutOfMemory)
