-- How long a host with a door waits, and for what its clients do.
use Rattle.std.specs.Prelude.{◌≡◌, ℕ, ◌-◌, None, false, min}
use Rattle.std.specs.Int.{div_ceil}
use Rattle.amo_door.specs.declared.claim.Claim.{Claim}
use Rattle.amo_door.specs.declared.claim.Decision.TheVariants.{Next}
use Rattle.amo_door.specs.Numbers.{Table, decision, last_of}
use Rattle.amo_serve.specs.States.{is_reached, side_of, summary_at}
use Rattle.amo_serve.specs.declared.responder.Responder.{Responder}
use Rattle.amo_serve.specs.declared.waiting.Awaited.{Awaited}
use Rattle.amo_serve.specs.declared.waiting.Awaited.TheVariants as awaited

-- how many milliseconds there are from now until a time, rounded up: a minute at most, and none where that time is over
abbrev pub milliseconds_until : ℕ → ℕ → ℕ
milliseconds_until until now = div_ceil (min (until - now) 60000000) 1000

-- a claim to take is for the next message of its stream
abbrev pub IsNext : Table → Claim → Type 0
IsNext table claim = decision table.life (last_of table claim.stream) claim None ≡ Next

-- What a client may wait for on: what is not so yet. A claim that it waits for is for the next message.
abbrev pub MayWait : {L S W : Type 0} → Responder L S W → Awaited → Type 0
MayWait responder (awaited.State stream) = is_reached (side_of responder) (summary_at responder stream) ≡ false
MayWait responder (awaited.Take claim) = (is_reached (side_of responder) (summary_at responder claim.stream) ≡ false) × IsNext responder.numbers claim
