-- What requests are answered.
use Rattle.std.specs.Prelude.{◌≡◌, ℕ, Bool, if◌then◌else◌, Option, None, Some, List, [], ◌∷◌, ◌++◌, codes}
use Rattle.std.specs.Fmt.{decimal}
use Rattle.std.specs.List.{flat_map}
use Rattle.amo_object.specs.declared.step.End.{End}
use Rattle.amo_object.specs.declared.step.End.TheVariants.{Sender, Receiver}
use Rattle.amo_door.specs.declared.answer.About.{About}
use Rattle.amo_door.specs.declared.answer.Extra.{Extra}
use Rattle.amo_door.specs.declared.answer.Extra.TheVariants as extra
use Rattle.amo_door.specs.declared.answer.Fate.{Fate}
use Rattle.amo_door.specs.declared.answer.Fate.TheVariants as fate
use Rattle.amo_door.specs.declared.answer.GotMessage.{GotMessage}
use Rattle.amo_door.specs.declared.answer.GotPage.{GotPage}
use Rattle.amo_door.specs.declared.answer.Kind.{Kind}
use Rattle.amo_door.specs.declared.answer.Kind.TheVariants as kind
use Rattle.amo_door.specs.declared.answer.Last.{Last}
use Rattle.amo_door.specs.declared.answer.Last.TheVariants as last
use Rattle.amo_door.specs.declared.answer.ReceiverState.{ReceiverState}
use Rattle.amo_door.specs.declared.answer.SenderState.{SenderState}
use Rattle.amo_door.specs.declared.answer.When.{When}
use Rattle.amo_door.specs.declared.answer.When.TheVariants as when
use Rattle.amo_door.specs.declared.claim.Made.{Made}
use Rattle.amo_door.specs.declared.refusal.Refusal.{Refusal}
use Rattle.amo_door.specs.declared.refusal.Refusal.TheVariants as refusal
use Rattle.amo_door.specs.Json.{message_member, quoted}
use Rattle.amo_door.specs.Refusal.{retry_of, word_of}

-- the media type of a body
abbrev pub type_of : Kind → List ℕ
type_of kind.None = []
type_of kind.Json = codes "application/json"
type_of kind.Bytes = codes "application/octet-stream"
type_of kind.Text = codes "text/plain; charset=utf-8"
type_of kind.Page = codes "text/html; charset=utf-8"
type_of kind.Metrics = codes "text/plain; version=0.0.4; charset=utf-8"

-- the status of an answer to a put: 201 where it was made now
abbrev pub status_of_put : When → ℕ
status_of_put when.Now = 201
status_of_put when.Before = 200

-- the member of a life
abbrev pub life_member : List ℕ → List ℕ
life_member life = codes "\"life\":\"" ++ life ++ codes "\""

-- the members of a life and a stream
abbrev pub stream_members : List ℕ → ℕ → List ℕ
stream_members life stream = life_member life ++ codes ",\"stream\":" ++ decimal stream

-- the front of an object about the message of a number
abbrev pub place_members : List ℕ → ℕ → ℕ → List ℕ
place_members life stream number = codes "{" ++ stream_members life stream ++ codes ",\"number\":" ++ decimal number

-- the object about a put
abbrev pub put_body : List ℕ → ℕ → Made → List ℕ
put_body life stream made = place_members life stream made.number ++ codes ",\"position\":" ++ decimal made.place.position ++ codes ",\"line\":" ++ decimal made.place.line ++ codes "}"

-- the word for what became of a message
abbrev pub fate_word : Fate → List ℕ
fate_word fate.Got = codes "got"
fate_word fate.Gone = codes "gone"
fate_word fate.Open = codes "open"
fate_word fate.Unknown = codes "unknown"
fate_word fate.Settled = codes "settled"
fate_word fate.Never = codes "never"

-- the object about what became of a message
abbrev pub outcome_body : List ℕ → ℕ → ℕ → Fate → List ℕ
outcome_body life stream number what = place_members life stream number ++ codes ",\"outcome\":\"" ++ fate_word what ++ codes "\"}"

-- what is known of the last message, as a value
abbrev pub last_value : Last → List ℕ
last_value last.None = codes "null"
last_value last.Open = codes "\"open\""
last_value last.Yes = codes "\"yes\""
last_value last.No = codes "\"no\""

-- the members of how many messages were put, and how many wait
abbrev pub count_members : SenderState → List ℕ
count_members state = codes ",\"put\":" ++ decimal state.put ++ codes ",\"waiting\":" ++ decimal state.waiting

-- the members of the state of a stream of senders
abbrev pub sender_members : List ℕ → ℕ → SenderState → List ℕ
sender_members life stream state = stream_members life stream ++ count_members state ++ codes ",\"last\":" ++ last_value state.last

-- a value that is true or false
abbrev pub truth : Bool → List ℕ
truth value = if value then codes "true" else codes "false"

-- the members of the state of a stream of receivers
abbrev pub receiver_members : List ℕ → ℕ → ReceiverState → List ℕ
receiver_members life stream state = stream_members life stream ++ codes ",\"taken\":" ++ decimal state.taken ++ codes ",\"ready\":" ++ truth state.ready

-- the member of a side, with a comma in front
abbrev pub side_member : End → List ℕ
side_member Sender = codes ",\"side\":\"send\""
side_member Receiver = codes ",\"side\":\"receive\""

-- the members of the program that a host runs, and of its side
abbrev pub program_members : About → List ℕ
program_members about = codes ",\"version\":" ++ quoted about.version.now ++ side_member about.side

-- the member of how many streams a host has, with a comma in front
abbrev pub streams_member : ℕ → List ℕ
streams_member streams = codes ",\"streams\":" ++ decimal streams

-- the members of a host's streams, and of its peer
abbrev pub network_members : About → List ℕ
network_members about = streams_member about.streams ++ codes ",\"peer\":" ++ quoted about.peer.now

-- where the rest of the door is, and the end of the object about a host
abbrev pub links : List ℕ
links = codes ",\"links\":{\"stream\":\"/v1/streams/{stream}\",\"events\":\"/v1/events\",\"metrics\":\"/metrics\",\"health\":\"/healthz\"}}"

-- the object about a host
abbrev pub host_body : List ℕ → About → List ℕ
host_body life about = codes "{" ++ life_member life ++ program_members about ++ network_members about ++ codes ",\"since\":" ++ decimal about.since ++ links

-- the front of an object that says why a request is refused
abbrev pub refusal_members : Refusal → List ℕ → List ℕ
refusal_members reason sentence = codes "{\"error\":\"" ++ word_of reason ++ codes "\",\"text\":" ++ quoted sentence

-- such an object, with more members behind
abbrev pub refusal_body : Refusal → List ℕ → List ℕ → List ℕ
refusal_body reason sentence more = refusal_members reason sentence ++ more ++ codes "}"

-- the same of some sentence
pub record IsRefusal (reason : Refusal) (more body : List ℕ) : Type 0 where
  pub sentence : List ℕ
  pub body_is : body ≡ refusal_body reason sentence more

-- in how many seconds a request may come again, as the head says it
abbrev pub retry_extra : Option ℕ → Extra
retry_extra None = extra.None
retry_extra (Some seconds) = extra.RetryAfter seconds

-- what the head of an answer that refuses says beside its body
abbrev pub extra_of : Refusal → Extra
extra_of (refusal.Method place) = extra.Allow place
extra_of refusal.Token = extra.Authenticate
extra_of reason = retry_extra (retry_of reason)

-- the front of an object about messages that were got of a stream
abbrev pub got_front : ℕ → List ℕ
got_front stream = codes "{\"stream\":" ++ decimal stream ++ codes ",\"got\":["

-- the front of an object about a line
abbrev pub line_front : ℕ → List ℕ
line_front line = codes "{\"line\":" ++ decimal line ++ codes ","

-- the object about a message that was got
abbrev pub got_message : GotMessage → List ℕ
got_message got = line_front got.line ++ message_member got.message ++ codes "}"

-- the same behind another one
abbrev pub next_got : GotMessage → List ℕ
next_got got = codes "," ++ got_message got

-- such objects, with commas between them
abbrev pub got_list : List GotMessage → List ℕ
got_list [] = []
got_list (first ∷ rest) = got_message first ++ flat_map next_got rest

-- the number of a line, or null
abbrev pub line_value : Option ℕ → List ℕ
line_value (Some line) = decimal line
line_value None = codes "null"

-- whether there are more lines, and the end of the object
abbrev pub more_end : Bool → List ℕ
more_end more = codes ",\"more\":" ++ truth more ++ codes "}"

-- which lines were read, behind the messages that they tell
abbrev pub got_end : GotPage → List ℕ
got_end page = codes "],\"from\":" ++ line_value page.from ++ codes ",\"next\":" ++ line_value page.next ++ more_end page.more

-- the object about messages that were got of a stream
abbrev pub got_body : ℕ → GotPage → List ℕ
got_body stream page = got_front stream ++ got_list page.messages.items ++ got_end page
