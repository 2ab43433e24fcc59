use Rattle.std.proofs.Common.{◌≡◌, ◌++◌, replicate}
use Rattle.amo_object.specs.declared.step.Step.TheVariants.{LoseAck}
use Rattle.amo_resolve.proofs.weave.make_room.Given as goal

-- so much room was made
abbrev pub invariant-loop : goal.invariant-loop
invariant-loop l = l.run.items ≡ l.fn.run.items ++ replicate l.counter LoseAck
