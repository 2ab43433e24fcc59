-- Both sides of a stream, as a merge keeps them.
use Rattle.amo_object.specs.declared.step.End.{End}
use Rattle.amo_object.specs.declared.step.End.TheVariants.{Sender, Receiver}
use Rattle.amo_world.specs.Stream.{Stream, automaton_of, emitted_by}
use Rattle.amo_audit.specs.declared.side.Side.{Side}
use Rattle.amo_audit.specs.declared.sides.Sides.{Sides}
use Rattle.amo_audit.specs.Side as side

-- a side
abbrev pub side_of : Sides → End → Side
side_of kept Sender = kept.sender
side_of kept Receiver = kept.receiver

-- each side is that of the stream
abbrev pub Represents : Sides → Stream → Type 0
Represents kept s = (end : End) → side.Represents (side_of kept end) (automaton_of s end) (emitted_by s end)
