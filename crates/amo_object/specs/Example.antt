-- One life of a queue, and what its clients see of it.
use Rattle.std.specs.Prelude.{true, false, List, [], ◌∷◌}
use Rattle.amo_object.specs.declared.step.End.TheVariants.{Sender, Receiver}
use Rattle.amo_object.specs.declared.step.Step.{Step}
use Rattle.amo_object.specs.declared.step.Step.TheVariants.{Put, Get, Ack, Crash, Recover, DownReply, Lose, LoseAck}

-- two messages are put, and the first is got
abbrev pub beginning : List Step
beginning = Put (1 ∷ []) ∷ Put (2 ∷ []) ∷ Get (1 ∷ []) ∷ []

-- the second is lost in a crash; a third is got, and what is known of it is lost in another crash
abbrev pub life : List Step
life =
    Put (1 ∷ []) ∷ Put (2 ∷ []) ∷ Get (1 ∷ [])
    ∷ Crash Receiver ∷ Lose 0 ∷ Recover Receiver ∷ Ack false
    ∷ Put (3 ∷ []) ∷ Get (3 ∷ []) ∷ Ack true
    ∷ Crash Sender ∷ LoseAck ∷ DownReply Sender ∷ Recover Sender ∷ Ack false ∷ []

-- what clients see of it
abbrev pub seen_of_life : List Step
seen_of_life =
    Put (1 ∷ []) ∷ Put (2 ∷ []) ∷ Get (1 ∷ [])
    ∷ Crash Receiver ∷ Recover Receiver ∷ Ack false
    ∷ Put (3 ∷ []) ∷ Get (3 ∷ []) ∷ Ack true
    ∷ Crash Sender ∷ DownReply Sender ∷ Recover Sender ∷ Ack false ∷ []
