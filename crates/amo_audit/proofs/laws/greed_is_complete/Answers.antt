use Rattle.std.proofs.Common.{◌+◌, length, [], refl, subst, sym, arith}
use Rattle.std.proofs.lemmas.List.{append-nil}
use Rattle.amo_world.specs.History.{IsHonest}
use Rattle.amo_audit.proofs.Greedy.{complete, apart_from, honest_events}
use Rattle.amo_audit.proofs.laws.greed_is_complete.Goals as goal

pub returns : goal.returns
returns c = λ first second merged not inter honest.
    complete (length first + length second) merged (honest_events [] merged (subst IsHonest (sym (append-nil _)) honest)).0 [] [] [] first second (omega arith) (apart_from first second not) (λ n side. refl) inter
