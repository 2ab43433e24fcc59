-- What requests ask for.
use Rattle.std.specs.Prelude.{◌≡◌, ℕ, ◌-◌, nat_lt, if◌then◌else◌, Option, None, Some, List, [], ◌++◌, codes}
use Rattle.std.specs.Fmt.{decimal}
use Rattle.amo_door.specs.declared.claim.Claim.{Claim}
use Rattle.amo_door.specs.declared.place.Method.TheVariants as method
use Rattle.amo_call.specs.declared.kept.Kept.{Kept}
use Rattle.amo_call.specs.declared.kept.Progress.{Progress}
use Rattle.amo_call.specs.declared.kept.Progress.TheVariants as progress
use Rattle.amo_call.specs.declared.request.Request.{Request}

-- the place of a stream
abbrev pub stream_text : ℕ → List ℕ
stream_text stream = codes "/v1/streams/" ++ decimal stream

-- the place of the message that a claim names, and its life
abbrev pub message_text : Claim → List ℕ
message_text claim = stream_text claim.stream ++ codes "/messages/" ++ decimal claim.number ++ codes "?life=" ++ claim.life

-- the put that a claim names: its stream, its number, its life and its caller
abbrev pub put_target : Claim → List ℕ
put_target claim = message_text claim ++ codes "&by=" ++ claim.by

-- the take that a claim names
abbrev pub taking_text : Claim → List ℕ
taking_text claim = stream_text claim.stream ++ codes "/take?number=" ++ decimal claim.number ++ codes "&life=" ++ claim.life

abbrev pub take_text : Claim → List ℕ
take_text claim = taking_text claim ++ codes "&by=" ++ claim.by

abbrev pub take_target : Claim → ℕ → List ℕ
take_target claim wait = take_text claim ++ codes "&wait=" ++ decimal wait

-- what became of the message that a claim names
abbrev pub outcome_target : Claim → List ℕ
outcome_target claim = message_text claim

-- how a stream is
abbrev pub state_target : ℕ → ℕ → List ℕ
state_target stream wait = stream_text stream ++ codes "?wait=" ++ decimal wait

-- which messages of a stream were got, from a line of the journal on
abbrev pub from_text : ℕ → List ℕ
from_text from = if nat_lt 0 from then codes "?after=" ++ decimal (from - 1) else []

abbrev pub got_target : ℕ → ℕ → List ℕ
got_target stream from = stream_text stream ++ codes "/got" ++ from_text from

-- what happens, from behind a line of the journal on where one is given
abbrev pub events_target : Option ℕ → List ℕ
events_target None = codes "/v1/events"
events_target (Some line) = codes "/v1/events?after=" ++ decimal line

-- a request puts this message, as a claim names it
abbrev pub AsksToPut : Claim → List ℕ → Request → Type 0
AsksToPut claim message request = (request.method ≡ method.Put) × (request.target.items ≡ put_target claim) × (request.body.items ≡ message)

-- a request takes the message that a claim names
abbrev pub AsksToTake : Claim → ℕ → Request → Type 0
AsksToTake claim wait request = (request.method ≡ method.Post) × (request.target.items ≡ take_target claim wait) × (request.body.items ≡ [])

-- the same by how far a call is
abbrev pub AsksBy : Progress → Claim → ℕ → Request → Type 0
AsksBy (progress.Putting message) claim wait request = AsksToPut claim message request
AsksBy (progress.Put line message) claim wait request = AsksToPut claim message request
AsksBy _ claim wait request = AsksToTake claim wait request

-- a request makes a kept call
abbrev pub Asks : Kept → ℕ → Request → Type 0
Asks kept wait request = AsksBy kept.progress kept.claim wait request
