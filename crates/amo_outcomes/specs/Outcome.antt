-- What became of a put, and what may still become of it.
use Rattle.std.specs.Prelude.{◌≡◌, ℕ, ◌<◌, List, [], ◌∷◌, ◌++◌, Some, slice_get}
use Rattle.std.specs.List.{Contains}
use Rattle.amo_core.specs.declared.sender.SenderMode.{SenderMode}
use Rattle.amo_core.specs.declared.sender.SenderMode.TheVariants as sending
use Rattle.amo_core.specs.declared.receiver.ReceiverMode.{ReceiverMode}
use Rattle.amo_core.specs.declared.receiver.ReceiverMode.TheVariants as receiving
use Rattle.amo_world.specs.declared.event.Event.{Event}
use Rattle.amo_world.specs.Stream.{Stream}
use Rattle.amo_world.specs.History.{stream_after}
use Rattle.amo_outcomes.specs.declared.outcome.Outcome.{Outcome}
use Rattle.amo_outcomes.specs.declared.outcome.Outcome.TheVariants.{Got, Gone, Open}
use Rattle.amo_outcomes.specs.Puts.{Handshake, Puts, sent_under, puts_after}

-- the puts that the receiver holds, or that travel under the identifier that it accepts. What travels under any other identifier, it
-- takes no more.
abbrev pub arriving : ReceiverMode → List Handshake → List ℕ → List ℕ
arriving (receiving.Accept jd id) sent held = sent_under sent id
arriving (receiving.Rcvd id b) sent held = held
arriving _ sent held = []

-- the puts for which the sender asks for an identifier
abbrev pub asking : SenderMode → List ℕ → List ℕ
asking (sending.NeedId jd load) carried = carried
asking _ carried = []

-- the puts that may still be got, in order: they arrive, an identifier is asked for them, or they wait
abbrev pub open_of : SenderMode → ReceiverMode → Puts → List ℕ
open_of mode at p = arriving at p.sent p.held ++ (asking mode p.carried ++ p.waiting)

abbrev pub open_in : Stream → Puts → List ℕ
open_in s p = open_of s.sender.state.mode s.receiver.state.mode p

-- A put was got where a get answered it, it is open while it may still be got, and it is gone else.
abbrev pub HasOutcome : ℕ → List Event → ℕ → Outcome → Type 0
HasOutcome number events put Got = Contains (puts_after number events).got put
HasOutcome number events put Open = Contains (open_in (stream_after number events) (puts_after number events)) put
HasOutcome number events put Gone = (put < (puts_after number events).count)
    × (¬ (Contains (puts_after number events).got put))
    × (¬ (Contains (open_in (stream_after number events) (puts_after number events)) put))

-- these are the messages of these puts, where these messages were put
abbrev pub AreOf : List (List ℕ) → List ℕ → List (List ℕ) → Type 0
AreOf taken [] [] = Unit {0}
AreOf taken (put ∷ puts) (m ∷ ms) = (slice_get taken put ≡ Some m) × AreOf taken puts ms
AreOf taken _ _ = ⊥
