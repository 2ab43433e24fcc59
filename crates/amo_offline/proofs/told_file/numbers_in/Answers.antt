use Rattle.std.proofs.Common.{◌∙◌, ◌∷◌, ◌++◌, Some, codes, List, ℕ, ap}
use Rattle.std.proofs.lemmas.Bool.Decides.{Decides-eqb}
use Rattle.std.proofs.lemmas.Slice.Eq.{strip_prefix_is}
use Rattle.amo_offline.proofs.told_file.numbers_in.Goals as goal

pub returns : goal.returns
returns c =
    let front = strip_prefix_is Decides-eqb c.in_ok-line.line.now (codes "amo told ") (Some c.in_ok-strip_prefix.field-0) c.in_ok-strip_prefix.ensures.cases in
    c.in_ok-line.ensures.found.0 ∙ ap (λ (l : List ℕ). l ++ 10 ∷ c.in_ok-line.behind.now) front
