-- What the answers of a door tell.
use Rattle.std.specs.Prelude.{◌≡◌, ℕ, ◌<◌, ◌^◌, ◌==◌, ◌||◌, Bool, true, if◌then◌else◌, List, ◌++◌, codes, ◌⊎◌}
use Rattle.std.specs.Fmt.{decimal}
use Rattle.amo_door.specs.declared.answer.Fate.{Fate}
use Rattle.amo_door.specs.declared.claim.Claim.{Claim}
use Rattle.amo_door.specs.declared.claim.EventPlace.{EventPlace}
use Rattle.amo_door.specs.Answer.{outcome_body, place_members, stream_members}
use Rattle.amo_door.specs.Word.{IsWord}
use Rattle.amo_text.specs.Line.{Lacks}
use Rattle.amo_call.specs.declared.answer.Response.{Response}
use Rattle.amo_call.specs.declared.answer.StreamState.{StreamState}

-- a place whose numbers fit 64 bits
abbrev pub IsEventPlace : EventPlace → Type 0
IsEventPlace place = (place.position < 2 ^ 64) × (place.line < 2 ^ 64)

-- where the put of a message stands, and the end of the object that says so
abbrev pub event_members : EventPlace → List ℕ
event_members place = codes ",\"position\":" ++ decimal place.position ++ codes ",\"line\":" ++ decimal place.line ++ codes "}"

-- the message of a claim was put, now or before, and this is where
pub record TellsPut (claim : Claim) (place : EventPlace) (response : Response) : Type 0 where
  pub status : (response.status ≡ 200) ⊎ (response.status ≡ 201)
  pub fits : IsEventPlace place
  pub body : response.body.items ≡ place_members claim.life claim.stream claim.number ++ event_members place

-- this became of the message of a claim
pub record TellsFate (claim : Claim) (what : Fate) (response : Response) : Type 0 where
  pub status : response.status ≡ 200
  pub body : response.body.items ≡ outcome_body claim.life claim.stream claim.number what

-- the member of the last number of a stream of one that puts, or takes
abbrev pub last_name : Bool → List ℕ
last_name puts = if puts then codes ",\"put\":" else codes ",\"taken\":"

-- the members of how a stream is, up to that number and the comma behind it
abbrev pub state_members : List ℕ → ℕ → Bool → ℕ → List ℕ
state_members life stream puts last = stream_members life stream ++ last_name puts ++ decimal last ++ codes ","

-- how a stream is, and more
pub record TellsState (stream : ℕ) (puts : Bool) (state : StreamState) (response : Response) : Type 0 where
  pub status : response.status ≡ 200
  pub life : IsWord state.life
  pub fits : state.last < 2 ^ 64
  pub rest : List ℕ
  pub body : response.body.items ≡ codes "{" ++ state_members state.life stream puts state.last ++ rest

-- nothing happened, as the last number of the stream of a claim, in its life, is this; the sentence for people has no quote
pub record TellsConflict (claim : Claim) (puts : Bool) (last : ℕ) (response : Response) : Type 0 where
  pub status : response.status ≡ 409
  pub fits : last < 2 ^ 64
  pub sentence : List ℕ
  pub plain : Lacks 34 sentence
  pub rest : List ℕ
  pub body : response.body.items ≡ codes "{\"error\":\"conflict\",\"text\":\"" ++ sentence ++ codes "\"," ++ state_members claim.life claim.stream puts last ++ rest

-- a request is refused, and this is the word for it
pub record TellsRefusal (word : List ℕ) (response : Response) : Type 0 where
  pub is_word : IsWord word
  pub rest : List ℕ
  pub body : response.body.items ≡ codes "{\"error\":\"" ++ word ++ codes "\"" ++ rest

abbrev pub HasWord : Response → Type 0
HasWord response = (word : List ℕ) × TellsRefusal word response

-- the statuses of a door's answers
abbrev pub is_door_status : ℕ → Bool
is_door_status s = (s == 200) || (s == 201) || (s == 204) || (s == 400) || (s == 401) || (s == 403) || (s == 404) || (s == 405) || (s == 408) || (s == 409) || (s == 410)
    || (s == 413) || (s == 414) || (s == 421) || (s == 431) || (s == 500) || (s == 501) || (s == 503)

-- An answer is a door's: it has such a status, and where that says that the server is at fault, a word of the door for it. A proxy whose door does not answer
-- has others.
abbrev pub IsOfDoor : Response → Type 0
IsOfDoor response = (is_door_status response.status ≡ true) × ((response.status < 500) ⊎ HasWord response)

-- a text has this front
abbrev pub Begins : List ℕ → List ℕ → Type 0
Begins front text = (rest : List ℕ) × (text ≡ front ++ rest)

-- there is no room for a message, or its host comes to its end: it was not put, as a host looks first whether it was
abbrev pub TellsUnput : Response → Type 0
TellsUnput response = (response.status ≡ 503) × (Begins (codes "{\"error\":\"full\"") response.body.items ⊎ Begins (codes "{\"error\":\"ending\"") response.body.items)
