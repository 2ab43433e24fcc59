use Rattle.std.proofs.Common.{ℕ, Option, ◌++◌, refl, subst, sym}
use Rattle.std.specs.Option.{option_to_list}
use Rattle.amo_audit.specs.Alone.{IsLone}
use Rattle.amo_audit.proofs.Lone.{keeps_more}
use Rattle.amo_audit.proofs.lone_side.LoneSide.note.Goals as goal

pub returns-in_ok-insert-clause-known : goal.returns-in_ok-insert-clause-known
returns-in_ok-insert-clause-known c = λ automaton words keeps.
    let new = record c.args.self.now { words = c.insert.new.self } in
    subst (λ (o : Option ℕ). IsLone new automaton (option_to_list o ++ words)) (sym c.in-Some.is)
    (keeps_more c.args.self.now new c.in-Some.word automaton words refl c.in_ok-insert.ensures.updates.0 keeps)
