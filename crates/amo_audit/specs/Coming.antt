-- Events that are still to come, from a journal or from a list, of which the next one was read.
use Rattle.std.specs.Prelude.{◌≡◌, ℕ, ◌+◌, Option, None, Some, List, [], ◌∷◌, length}
use Rattle.std.specs.List.{All}
use Rattle.amo_world.specs.declared.event.Event.{Event}
use Rattle.amo_world.specs.History.{DeliversEmitted}
use Rattle.amo_world.specs.Stream.{IsStream}
use Rattle.amo_journal.specs.Journal.{numbered}
use Rattle.amo_journal.specs.Lines.{AreLines, Tell}
use Rattle.amo_audit.specs.declared.coming.Source.{Source}
use Rattle.amo_audit.specs.declared.coming.Source.TheVariants.{Journal, Events}

-- these are the events of a source that is whole: a journal's numbers begin with 0
abbrev pub IsWhole : Source → List Event → Type 0
IsWhole (Journal lines) events = Tell events lines
IsWhole (Events list) events = list.now ≡ events

-- these are the events of a source
abbrev pub Has : Source → List Event → Type 0
Has (Journal lines) events = (number : ℕ) × AreLines (numbered number events) lines
Has (Events list) events = list.now ≡ events

-- they are of streams that there are; those of a journal always are
abbrev pub AreOnStreams : Source → Type 0
AreOnStreams (Journal lines) = Unit {0}
AreOnStreams (Events list) = All (λ e. IsStream e.stream) list.now

-- the first of these events is the next one, and the others are the rest
abbrev pub AreComing : List Event → Option Event → Source → Type 0
AreComing [] next rest = next ≡ None
AreComing (e ∷ events) next rest = (next ≡ Some e) × Has rest events

-- how many events a source has at most
abbrev pub size_of : Source → ℕ
size_of (Journal lines) = length lines.text.now
size_of (Events list) = length list.now

-- how many are still to come at most
abbrev pub left_of : Option Event → Source → ℕ
left_of None rest = size_of rest
left_of (Some e) rest = size_of rest + 1

-- there is a next event, and it is no delivery of a packet that was not emitted in what was taken so far
abbrev pub NextMayGo : List Event → Option Event → Type 0
NextMayGo past None = ⊥
NextMayGo past (Some e) = DeliversEmitted past e
