-- A side of a stream, as it is kept: its automaton, and an index of the packets that it emitted.
use Rattle.std.specs.Prelude.{◌≡◌, ℕ, Option, None, Some, List, IsSome, IfSome, Result, Ok, Err, slice_get}
use Rattle.std.specs.List.{Contains}
use Rattle.std.specs.BTreeMap.{get}
use Rattle.amo_object.specs.declared.step.End.{End}
use Rattle.amo_packet.specs.declared.packet.OwnedPacket.{OwnedPacket}
use Rattle.amo_core.specs.declared.act.Act.{Act}
use Rattle.amo_core.specs.declared.automaton.Automaton.{Automaton}
use Rattle.amo_core.specs.Automaton.{row, used_word}
use Rattle.amo_world.specs.declared.emission.Emission.{Emission}
use Rattle.amo_world.specs.declared.emission.Emitted.{Emitted}
use Rattle.amo_world.specs.declared.emission.Emitted.TheVariants.{Nothing, Again, First}
use Rattle.amo_world.specs.declared.fault.WorldFault.{WorldFault}
use Rattle.amo_world.specs.declared.fault.WorldFault.TheVariants.{NoMemory, WrongReply, Unsent, Repeat}
use Rattle.amo_world.specs.declared.kept_side.KeptSide.{KeptSide}
use Rattle.amo_world.specs.declared.key.Key.{Key}
use Rattle.amo_world.specs.Key.{order, key_of, with_place}
use Rattle.amo_world.specs.Row.{place_in}

-- the place under a key
abbrev pub place_at : KeptSide → Key → Option ℕ
place_at kept key = place_in kept.index.rows.items (get order kept.index.spilled) key

-- the packet stands at the place that the index tells for its key
abbrev pub IsIndexed : KeptSide → End → List Emission → OwnedPacket → Type 0
IsIndexed kept side stored packet =
    (place : ℕ) × (place_at kept (key_of packet.body) ≡ Some place) × (slice_get stored place ≡ Some (record { side = side; packet = packet }))

-- a packet that was emitted stands at a place, and has this key
abbrev pub IsPlaced : End → List Emission → List OwnedPacket → Key → ℕ → Type 0
IsPlaced side stored emitted key place =
    (packet : OwnedPacket) × Contains emitted packet × (key_of packet.body ≡ key) × (slice_get stored place ≡ Some (record { side = side; packet = packet }))

-- the side is in this state and emitted these packets, each of which is stored at the place under its key; under a key stands no other place
pub record Represents (kept : KeptSide) (side : End) (stored : List Emission) (automaton : Automaton) (emitted : List OwnedPacket) : Type 0 where
  pub state : kept.automaton ≡ automaton
  pub indexed : (packet : OwnedPacket) → Contains emitted packet → IsIndexed kept side stored packet
  pub placed : (key : Key) (place : ℕ) → place_at kept key ≡ Some place → IsPlaced side stored emitted key place

-- the same state, and the same index
pub record IsSame (was now : KeptSide) : Type 0 where
  pub state : now.automaton ≡ was.automaton
  pub places : (key : Key) → place_at now key ≡ place_at was key

-- what the act will emit, as far as the index tells
abbrev pub IsEmission : KeptSide → Act → Emitted → Type 0
IsEmission was act Nothing = (row was.automaton act).emitted ≡ None
IsEmission was act (Again place) = (packet : OwnedPacket) × ((row was.automaton act).emitted ≡ Some packet)
    × (place_at was (key_of packet.body) ≡ Some place) × (used_word was.automaton act ≡ None)
IsEmission was act (First packet) = ((row was.automaton act).emitted ≡ Some packet) × (place_at was (key_of packet.body) ≡ None)

-- a packet that was not emitted before stands at the next place, and nothing else has changed
abbrev pub IsNoted : KeptSide → KeptSide → ℕ → Emitted → Type 0
IsNoted was now next (First packet) = (now.automaton ≡ was.automaton)
    × ((key : Key) → place_at now key ≡ with_place (place_at was) (key_of packet.body) next key)
IsNoted was now next _ = IsSame was now

-- why an act is not noted: its word is that of a packet that was emitted before, or memory ran out where it uses up no such word
abbrev pub IsRefusal : KeptSide → Act → WorldFault → Type 0
IsRefusal was act Repeat = (packet : OwnedPacket) × ((row was.automaton act).emitted ≡ Some packet)
    × IsSome (place_at was (key_of packet.body)) × IsSome (used_word was.automaton act)
IsRefusal was act NoMemory = IfSome (used_word was.automaton act) (λ word. IfSome (row was.automaton act).emitted (λ packet. place_at was (key_of packet.body) ≡ None))
IsRefusal was act WrongReply = ⊥
IsRefusal was act Unsent = ⊥

-- an act is noted, or refused
abbrev pub Notes : KeptSide → KeptSide → ℕ → Act → Result Emitted WorldFault → Type 0
Notes was now next act (Ok emitted) = IsEmission was act emitted × IsNoted was now next emitted
Notes was now next act (Err fault) = IsRefusal was act fault × IsSame was now
