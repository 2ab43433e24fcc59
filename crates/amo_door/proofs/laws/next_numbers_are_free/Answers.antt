use Rattle.amo_door.specs.Turns.{last_made}
use Rattle.amo_door.proofs.Again.{next_free}
use Rattle.amo_door.proofs.laws.next_numbers_are_free.Goals as goal

pub returns : goal.returns
returns c = λ life turns claim brings here h. next_free life (last_made claim.stream turns) claim brings here h
