-- The two sides of a stream.
use Rattle.amo_object.specs.declared.step.End.{End}
use Rattle.amo_object.specs.declared.step.End.TheVariants.{Sender, Receiver}

-- the other side
abbrev pub other : End → End
other Sender = Receiver
other Receiver = Sender
