-- A stream as it is followed.
use Rattle.std.specs.Prelude.{◌≡◌, ℕ, ◌<◌, ◌==◌, Bool, true, false, Some, List, length, slice_get}
use Rattle.std.specs.List.{Contains}
use Rattle.amo_object.specs.declared.step.End.TheVariants.{Sender, Receiver}
use Rattle.amo_packet.specs.declared.packet.OwnedBody.{OwnedBody}
use Rattle.amo_packet.specs.declared.packet.OwnedBody.TheVariants as packet
use Rattle.amo_core.specs.declared.act.Act.{Act}
use Rattle.amo_core.specs.declared.act.Act.TheVariants as act
use Rattle.amo_core.specs.declared.mode.Mode.{Mode}
use Rattle.amo_core.specs.declared.mode.Mode.TheVariants as mode
use Rattle.amo_core.specs.declared.sender.SenderMode.{SenderMode}
use Rattle.amo_core.specs.declared.sender.SenderMode.TheVariants as sending
use Rattle.amo_core.specs.declared.receiver.ReceiverMode.{ReceiverMode}
use Rattle.amo_core.specs.declared.receiver.ReceiverMode.TheVariants as receiving
use Rattle.amo_world.specs.declared.event.Event.{Event}
use Rattle.amo_world.specs.Stream.{Stream, automaton_of}
use Rattle.amo_world.specs.History.{stream_after}
use Rattle.amo_outcomes.specs.declared.follower.Follower.{Follower}
use Rattle.amo_outcomes.specs.Puts.{Puts, puts_after}
use Rattle.amo_outcomes.specs.Outcome.{arriving}

-- of so many puts, whether each is one of these, which were got
pub record AreGot (flags : List Bool) (count : ℕ) (got : List ℕ) : Type 0 where
  pub each : length flags ≡ count
  pub yes : (put : ℕ) → Contains got put → slice_get flags put ≡ Some true
  pub no : (put : ℕ) → put < count → (¬ (Contains got put)) → slice_get flags put ≡ Some false

-- the puts for which the sender asks for an identifier
abbrev pub AreAsked : SenderMode → List ℕ → List ℕ → Type 0
AreAsked (sending.NeedId jd load) carried puts = carried ≡ puts
AreAsked _ carried puts = Unit {0}

-- the identifier that the receiver accepts
abbrev pub IsAccepted : ReceiverMode → ℕ → Type 0
IsAccepted (receiving.Accept jd id) accepted = accepted ≡ id
IsAccepted _ accepted = Unit {0}

-- a follower is at this state of the stream, with these puts
pub record Follows (f : Follower) (s : Stream) (p : Puts) : Type 0 where
  pub sender : f.sender ≡ automaton_of s Sender
  pub receiver : f.receiver ≡ automaton_of s Receiver
  pub accepted : IsAccepted s.receiver.state.mode f.accepted
  pub waiting : f.places.waiting ≡ p.waiting
  pub asked : AreAsked s.sender.state.mode f.places.asked p.carried
  pub arriving : f.places.arriving ≡ arriving s.receiver.state.mode p.sent p.held
  pub got : AreGot f.places.got p.count p.got

abbrev pub IsFollowed : Follower → ℕ → List Event → Type 0
IsFollowed f number past = Follows f (stream_after number past) (puts_after number past)

-- the identifier that a packet brings to a sender, if it is this one
abbrev pub brings_body : OwnedBody → ℕ → Bool
brings_body (packet.Accept jd id) accepted = id == accepted
brings_body _ accepted = false

abbrev pub brings : Act → ℕ → Bool
brings (act.Deliver p word) accepted = brings_body p.body accepted
brings _ accepted = false

abbrev pub is_accept : Mode → Bool
is_accept mode.Accept = true
is_accept _ = false
