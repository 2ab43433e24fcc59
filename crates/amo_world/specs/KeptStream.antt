-- Both sides of a stream, as they are kept.
use Rattle.std.specs.Prelude.{List}
use Rattle.std.specs.Borrow.{Fml, Lends, MutBor}
use Rattle.amo_object.specs.declared.step.End.{End}
use Rattle.amo_object.specs.declared.step.End.TheVariants.{Sender, Receiver}
use Rattle.amo_world.specs.declared.emission.Emission.{Emission}
use Rattle.amo_world.specs.declared.kept_side.KeptSide.{KeptSide}
use Rattle.amo_world.specs.declared.kept_stream.KeptStream.{KeptStream}
use Rattle.amo_world.specs.contracts.kept_side.KeptSide.{the_row as side_row}
use Rattle.amo_world.specs.contracts.kept_stream.KeptStream.{the_row}
use Rattle.amo_world.specs.KeptSide as side
use Rattle.amo_world.specs.Stream.{Stream, automaton_of, emitted_by}

-- a side
abbrev pub side_of : KeptStream → End → KeptSide
side_of kept Sender = kept.sender
side_of kept Receiver = kept.receiver

-- with another one in its place
abbrev pub with_side : KeptStream → End → KeptSide → KeptStream
with_side kept Sender side = record kept { sender = side }
with_side kept Receiver side = record kept { receiver = side }

-- it ends with what was left in the place of this side
abbrev pub LendsSide : MutBor KeptStream → End → MutBor KeptSide → Fml
LendsSide kept end side = Lends the_row side_row kept side (with_side kept.now end)

-- each side is that of the stream
abbrev pub Represents : KeptStream → List Emission → Stream → Type 0
Represents kept stored s = (end : End) → side.Represents (side_of kept end) end stored (automaton_of s end) (emitted_by s end)
