-- What happens at a host, as server-sent events (the HTML standard, section 9.2).
use Rattle.std.specs.Prelude.{ℕ, Option, None, Some, List, [], ◌++◌, codes}
use Rattle.std.specs.Fmt.{decimal}
use Rattle.amo_door.specs.declared.event.Happening.{Happening}
use Rattle.amo_door.specs.declared.event.Happening.TheVariants.{Put, Yes, No, Got, Crash, Peer, Fault}
use Rattle.amo_door.specs.Json.{message_member}

-- the word for what happened
abbrev pub word_of : Happening → List ℕ
word_of (Put stream message) = codes "put"
word_of (Yes stream) = codes "yes"
word_of (No stream) = codes "no"
word_of (Got stream message) = codes "got"
word_of Crash = codes "crash"
word_of Peer = codes "peer"
word_of Fault = codes "fault"

-- the name of an event
abbrev pub name_text : Happening → List ℕ
name_text happening = codes "event: " ++ word_of happening ++ codes "\n"

-- its id: the number of its line in the journal
abbrev pub id_text : Option ℕ → List ℕ
id_text None = []
id_text (Some line) = codes "id: " ++ decimal line ++ codes "\n"

-- the member of a stream, with a comma behind
abbrev pub stream_front : ℕ → List ℕ
stream_front stream = codes "\"stream\":" ++ decimal stream ++ codes ","

-- the member of its stream, if it has one
abbrev pub stream_text : Happening → List ℕ
stream_text (Put stream message) = stream_front stream
stream_text (Yes stream) = stream_front stream
stream_text (No stream) = stream_front stream
stream_text (Got stream message) = stream_front stream
stream_text Crash = []
stream_text Peer = []
stream_text Fault = []

-- the member of what happened
abbrev pub word_member : Happening → List ℕ
word_member happening = codes "\"event\":\"" ++ word_of happening ++ codes "\""

-- the member of a message, with a comma in front
abbrev pub message_behind : List ℕ → List ℕ
message_behind message = codes "," ++ message_member message

-- the member of its message, if it has one
abbrev pub message_text : Happening → List ℕ
message_text (Put stream message) = message_behind message.now
message_text (Got stream message) = message_behind message.now
message_text _ = []

-- the members of its data
abbrev pub happening_members : Happening → List ℕ
happening_members happening = stream_text happening ++ word_member happening ++ message_text happening

-- its data: one line, since no object has a line's end
abbrev pub data_text : Happening → List ℕ
data_text happening = codes "data: {" ++ happening_members happening ++ codes "}\n\n"

-- an event
abbrev pub event_text : Option ℕ → Happening → List ℕ
event_text line happening = name_text happening ++ id_text line ++ data_text happening
