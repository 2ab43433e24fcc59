-- Histories in which each put has its row's reply, however other acts were answered.
use Rattle.std.specs.Prelude.{◌≡◌, ℕ, List}
use Rattle.amo_core.specs.declared.act.Act.TheVariants as act
use Rattle.amo_world.specs.declared.event.Event.{Event}
use Rattle.amo_world.specs.History.{Along, HasRightReply}

abbrev pub HasRightPut : List Event → Event → Type 0
HasRightPut past e = (m : List ℕ) → e.act ≡ act.Put m → HasRightReply past e

abbrev pub ArePutsRight : List Event → Type 0
ArePutsRight events = Along HasRightPut events

-- those of one stream
abbrev pub ArePutsRightOn : ℕ → List Event → Type 0
ArePutsRightOn number events = Along (λ past e. e.stream ≡ number → HasRightPut past e) events
