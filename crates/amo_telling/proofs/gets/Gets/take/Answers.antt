use Rattle.std.proofs.Common.{Bool, List, ℕ, ◌∙◌, ◌++◌, ap, refl}
use Rattle.std.specs.Prelude.{◌||◌}
use Rattle.amo_telling.proofs.SoFar.{read_more, told_so}
use Rattle.amo_telling.proofs.gets.Gets.take.Goals as goal

pub returns-clause-taken : goal.returns-clause-taken
returns-clause-taken c = λ after json past have. (
  read_more after json c.args.self.now _ past c.args.event.now have refl refl refl (ap (λ (b : Bool). c.args.self.now.receives || b) c.is_receivers.ensures),
  c.in_ok-push_event.ensures ∙ ap (λ (t : List ℕ). c.args.text.now.items ++ t) (told_so after json c.args.self.now past c.args.self.now.lines c.args.event.now have),
)
