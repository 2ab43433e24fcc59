use Rattle.std.proofs.Common.{Bool, Option, Some, subst, sym, ℕ}
use Rattle.std.specs.Prelude.{IsTrue, ◌↔◌}
use Rattle.amo_audit.specs.Alone.{IsNew}
use Rattle.amo_audit.proofs.Lone.{used_is}
use Rattle.amo_audit.proofs.lone_side.LoneSide.has_used.Goals as goal

pub returns-in-Some : goal.returns-in-Some
returns-in-Some c = λ automaton words keeps.
    subst (λ (o : Option ℕ). IsTrue c.contains.result ↔ (¬ (IsNew o words))) (sym c.in-Some.is)
    (subst (λ (b : Bool). IsTrue b ↔ (¬ (IsNew (Some c.in-Some.word) words))) (sym c.contains.ensures) (used_is c.args.self.now automaton words c.in-Some.word keeps))
