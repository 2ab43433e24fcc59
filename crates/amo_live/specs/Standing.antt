-- Lines that stand already when a host comes back.
use Rattle.std.specs.Prelude.{◌≡◌, ℕ, zero, suc, nat_le, if◌then◌else◌, List, ◌++◌, reverse}
use Rattle.amo_world.specs.declared.event.Event.{Event}
use Rattle.amo_disk.specs.declared.start.Start.{Start}

-- of so many streams that came back by the last of so many lines, those of a host of so many; another host's are none
abbrev pub standing_behind : ℕ → ℕ → ℕ → ℕ
standing_behind zero back streams = 0
standing_behind (suc lines) back streams = if nat_le back streams then back else 0

-- how many of a host's streams came back by the last lines of its journal, in this place
abbrev pub standing_of : Start → ℕ → ℕ
standing_of place streams = standing_behind place.lines place.back streams

-- a history, newest first, began with these events, oldest first
abbrev pub BeganSo : List Event → List Event → Type 0
BeganSo firsts history = (more : List Event) × (history ≡ more ++ reverse firsts)
