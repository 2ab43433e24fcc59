-- A world, as it is kept, and the history that it stands for.
use Rattle.std.specs.Prelude.{◌≡◌, ℕ, ◌+◌, ◌<◌, ◌^◌, Option, None, Some, List, length, slice_get}
use Rattle.amo_object.specs.End.{other}
use Rattle.amo_core.specs.declared.act.Act.TheVariants.{Deliver}
use Rattle.amo_core.specs.declared.reply.Reply.TheVariants.{Done}
use Rattle.amo_world.specs.declared.emission.Emission.{Emission}
use Rattle.amo_world.specs.declared.event.Event.{Event}
use Rattle.amo_world.specs.declared.kept_stream.KeptStream.{KeptStream}
use Rattle.amo_world.specs.declared.log.Log.{Log}
use Rattle.amo_world.specs.declared.fault.WorldFault.{WorldFault}
use Rattle.amo_world.specs.declared.fault.WorldFault.TheVariants.{NoMemory, WrongReply, Unsent, Repeat}
use Rattle.amo_world.specs.Log.{at_place}
use Rattle.amo_world.specs.KeptStream as stream
use Rattle.amo_world.specs.Stream.{IsStream}
use Rattle.amo_world.specs.History.{Along, stream_after, emissions, HasRightReply, DeliversEmitted, UsesNewWord, IsRight, IsHonest, IsFresh}

-- all streams are kept, and all that was emitted
pub record Represents (streams : List KeptStream) (log : Log) (past : List Event) : Type 0 where
  pub count : length streams ≡ 256
  pub each : (place : ℕ) (kept : KeptStream) → slice_get streams place ≡ Some kept → stream.Represents kept log.stored.items (stream_after (place + 1) past)
  pub counted : length log.order.items ≡ length (emissions past)
  pub emitted : (number : ℕ) → at_place log.stored.items (slice_get log.order.items number) ≡ slice_get (emissions past) number
  pub events : log.events ≡ length past
  pub few : log.events < 2 ^ 63
  pub within : Along (λ before e. IsStream e.stream) past
  pub right : IsRight past
  pub honest : IsHonest past
  pub fresh : IsFresh past

-- why an event is not accepted after a history: the first of these that holds, in this order, or out of memory where none does
abbrev pub Refuses : List Event → Event → WorldFault → Type 0
Refuses past e WrongReply = ¬ (HasRightReply past e)
Refuses past e Unsent = HasRightReply past e × (¬ (DeliversEmitted past e))
Refuses past e Repeat = HasRightReply past e × DeliversEmitted past e × (¬ (UsesNewWord past e))
Refuses past e NoMemory = HasRightReply past e × DeliversEmitted past e × UsesNewWord past e

-- the delivery, under a pass and a word, of a packet that was emitted, to the other side of its stream
abbrev pub delivery_of : ℕ → Emission → ℕ → Event
delivery_of pass x word = record { pass = pass; side = other x.side; stream = x.packet.stream; act = Deliver x.packet word; reply = Done }

-- the delivery of a packet, if there is one, uses up a word again
abbrev pub IsRepeat : List Event → ℕ → ℕ → Option Emission → Type 0
IsRepeat past pass word None = ⊥
IsRepeat past pass word (Some x) = ¬ (UsesNewWord past (delivery_of pass x word))
