use Rattle.std.proofs.lemmas.Bool.Decides.{Decides-eqb}
use Rattle.std.proofs.lemmas.Slice.Eq.{strip_prefix_is}
use Rattle.std.proofs.Common.{◌≡◌, ◌≢◌, List, ℕ, ◌++◌}
use Rattle.std.specs.Prelude.{MatchOption, Option, None, Some, IfSome, IfNone}
use Rattle.std.proofs.Common.{Bor}
use Rattle.amo_call.proofs.scan.behind.Goals as goal

-- what is of either case
found : (s p : List ℕ) (r : Option (Bor (List ℕ))) → MatchOption r ((rest : List ℕ) → s ≢ p ++ rest) (λ x. s ≡ p ++ x.now) → IfSome r (λ rest. s ≡ p ++ rest.now)
found s p None m = tt
found s p (Some x) m = m

none : (s p : List ℕ) (r : Option (Bor (List ℕ))) → MatchOption r ((rest : List ℕ) → s ≢ p ++ rest) (λ x. s ≡ p ++ x.now) → IfNone r ((rest : List ℕ) → s ≢ p ++ rest)
none s p None m = m
none s p (Some x) m = tt

pub returns-clause-found : goal.returns-clause-found
returns-clause-found c = found _ _ c.strip_prefix.result (strip_prefix_is Decides-eqb c.args.text.now c.args.front.now c.strip_prefix.result c.strip_prefix.ensures.cases)

pub returns-clause-none : goal.returns-clause-none
returns-clause-none c = none _ _ c.strip_prefix.result (strip_prefix_is Decides-eqb c.args.text.now c.args.front.now c.strip_prefix.result c.strip_prefix.ensures.cases)
