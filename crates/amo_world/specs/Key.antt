-- What tells a packet from the others that its side emitted.
use Rattle.std.specs.Prelude.{ℕ, Option, Some, cond}
use Rattle.std.specs.Option.{unwrap_or}
use Rattle.std.specs.BTreeMap.{is_at}
use Rattle.std.specs.declared.cmp.Ordering.{Ordering}
use Rattle.amo_object.specs.declared.step.End.{End}
use Rattle.amo_object.specs.declared.step.End.TheVariants.{Sender, Receiver}
use Rattle.amo_packet.specs.declared.packet.OwnedBody.{OwnedBody}
use Rattle.amo_packet.specs.declared.packet.OwnedBody.TheVariants as packet
use Rattle.amo_world.specs.declared.key.Key.{Key}
use Rattle.amo_world.specs.declared.key.PacketKind.{PacketKind}
use Rattle.amo_world.specs.declared.key.PacketKind.TheVariants.{NeedUid, Accept, Send, Ack, Cleanup, Batch}
use Rattle.amo_world.specs.contracts.key.KeyOrd.TheImpl as key_order

-- a key of this kind, with this identifier
abbrev pub key : PacketKind → ℕ → Key
key kind identifier = record { identifier = identifier; kind = kind }

-- the key of a packet that says this
abbrev pub key_of : OwnedBody → Key
key_of (packet.NeedUid jd) = key NeedUid jd
key_of (packet.Accept jd id) = key Accept id
key_of (packet.Send id m) = key Send id
key_of (packet.Ack id got) = key (Ack got) id
key_of (packet.Cleanup id) = key Cleanup id
key_of (packet.Batch id b) = key Batch id

-- the key of the packet that an act emits which uses up this word
abbrev pub key_of_word : End → ℕ → Key
key_of_word Sender word = key NeedUid word
key_of_word Receiver word = key Accept word

-- the order of keys
abbrev pub order : Key → Key → Ordering
order = key_order.cmp-value.it

-- places under keys, with one put under a key if none stands there
abbrev pub with_place : (Key → Option ℕ) → Key → ℕ → Key → Option ℕ
with_place places key next k = cond (is_at (order key) k) (Some (unwrap_or (places key) next)) (places k)
