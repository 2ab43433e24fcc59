use Rattle.std.proofs.lemmas.Bool.Decides.{Decides-eqb}
use Rattle.std.proofs.lemmas.Slice.Eq.{strip_suffix_is}
use Rattle.std.proofs.Common.{◌≡◌, ◌≢◌, List, ℕ, ◌++◌}
use Rattle.std.specs.Prelude.{MatchOption, Option, None, Some, IfSome, IfNone}
use Rattle.std.proofs.Common.{Bor}
use Rattle.amo_call.proofs.scan.before.Goals as goal

-- what is of either case
found : (s p : List ℕ) (r : Option (Bor (List ℕ))) → MatchOption r ((front : List ℕ) → s ≢ front ++ p) (λ x. s ≡ x.now ++ p) → IfSome r (λ front. s ≡ front.now ++ p)
found s p None m = tt
found s p (Some x) m = m

none : (s p : List ℕ) (r : Option (Bor (List ℕ))) → MatchOption r ((front : List ℕ) → s ≢ front ++ p) (λ x. s ≡ x.now ++ p) → IfNone r ((front : List ℕ) → s ≢ front ++ p)
none s p None m = m
none s p (Some x) m = tt

pub returns-clause-found : goal.returns-clause-found
returns-clause-found c = found _ _ c.strip_suffix.result (strip_suffix_is Decides-eqb c.args.text.now c.args.end.now c.strip_suffix.result c.strip_suffix.ensures.cases)

pub returns-clause-none : goal.returns-clause-none
returns-clause-none c = none _ _ c.strip_suffix.result (strip_suffix_is Decides-eqb c.args.text.now c.args.end.now c.strip_suffix.result c.strip_suffix.ensures.cases)
