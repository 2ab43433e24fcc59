use Rattle.std.proofs.Common.{[], subst}
use Rattle.std.proofs.lemmas.List.{append-nil}
use Rattle.amo_world.specs.History.{IsHonest}
use Rattle.amo_audit.proofs.Greedy.{preferred_interleaves, preferred_is_honest, honest_history, only_one}
use Rattle.amo_audit.proofs.laws.preferred_merges.Goals as goal

pub returns-clause-interleaves : goal.returns-clause-interleaves
returns-clause-interleaves c = preferred_interleaves []

pub returns-clause-honest : goal.returns-clause-honest
returns-clause-honest c = λ first second merged p. subst IsHonest (append-nil _) (honest_history [] merged (preferred_is_honest [] first second merged p) tt)

pub returns-clause-one : goal.returns-clause-one
returns-clause-one c = only_one []
