use Rattle.std.proofs.Common.{◌≡◌, ◌∙◌, ◌++◌, ℕ, List, ap, sym, true, false, codes}
use Rattle.std.specs.Prelude.{nat_eq}
use Rattle.std.specs.List.{starts_with}
use Rattle.amo_telling.proofs.puts.may_put.Goals as goal

differ : true ≡ false → ⊥
differ e = cc

pub returns-in-Some : goal.returns-in-Some
returns-in-Some c = λ is rest stands.
    let same = c.in-Some.ensures.some (codes "put " ++ rest) stands in
    let begins : c.starts_with.result ≡ true = c.starts_with.ensures.value ∙ ap (λ (t : List ℕ). starts_with nat_eq t (codes "put ")) same in
    differ (sym begins ∙ is)

pub returns-in-None : goal.returns-in-None
returns-in-None c = λ is rest stands. c.in-None.ensures.none (codes "put " ++ rest) stands
