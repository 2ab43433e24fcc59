use Rattle.std.proofs.Common.{◌≡◌, List, ℕ}
use Rattle.http1.specs.Message.{Request}
use Rattle.amo_door.specs.Connection.{GoesOn}
use Rattle.amo_door.specs.Requests.{HasRead, ReadsOn}
use Rattle.amo_door.specs.declared.connection.Stage.TheVariants as stage
use Rattle.amo_door.proofs.connection.Connection.read_on.Given as goal

-- requests were read so far, and are read on
abbrev pub invariant-loop-event : goal.invariant-loop-event
invariant-loop-event l = record {
  goes : GoesOn l.fn.self l.self;
  stage : l.self.stage ≡ stage.Reading;
  read : (came : List ℕ) (past : List Request) → HasRead l.fn.reader came past l.fn.self → ReadsOn l.fn.reader came past l.self;
}
