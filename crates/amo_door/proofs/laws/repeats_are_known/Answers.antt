use Rattle.amo_door.specs.Turns.{last_made}
use Rattle.amo_door.proofs.Again.{known_again}
use Rattle.amo_door.proofs.laws.repeats_are_known.Goals as goal

pub returns : goal.returns
returns c = λ life turns claim brings made here was h. known_again life (last_made claim.stream turns) claim brings made here was h
