-- What an act would do.
use Rattle.std.specs.Prelude.{◌≡◌, ◌≢◌, ℕ, List}
use Rattle.amo_object.specs.declared.step.End.TheVariants.{Sender}
use Rattle.amo_core.specs.declared.act.Act.{Act}
use Rattle.amo_core.specs.declared.automaton.Automaton.{Automaton}
use Rattle.amo_core.specs.Row.{Row}
use Rattle.amo_core.specs.Automaton.{row, mode_of, Writes}
use Rattle.amo_core.specs.Summary.{summary_of}
use Rattle.amo_world.specs.History.{Extends}
use Rattle.amo_book.specs.declared.foresee.Foreseen.{Foreseen}
use Rattle.amo_book.specs.declared.foresee.Foreseen.TheVariants.{Changes, Keeps}
use Rattle.amo_book.specs.Pass.{PassState, IsSamePass, automaton_after}
use Rattle.amo_book.specs.Charge.{ChargeState}

-- what is told of a row in this state: it leaves another one, and how this one stands; or the same, and what it emits stands at the front of the buffer
abbrev pub Tells : Row Automaton → Automaton → List ℕ → List ℕ → Foreseen → Type 0
Tells r x old new (Changes summary) = (r.state ≢ x) × (new ≡ old) × (summary ≡ summary_of x)
Tells r x old new (Keeps length) = (r.state ≡ x) × Writes r.emitted old new length

-- The pass made no event, and has seen what others did meanwhile. Of the act's row at the charge's side, as it is after that, it is told what it does. A
-- sender was found in the mode that its charge holds.
pub record Foresees (v w : PassState) (c : ChargeState) (a : Act) (old new : List ℕ) (foreseen : Foreseen) : Type 0 where
  pub same : IsSamePass v w
  pub extends : Extends w.seen v.seen
  pub tells : Tells (row (automaton_after c.side c.stream w.seen) a) (automaton_after c.side c.stream w.seen) old new foreseen
  pub found : c.side ≡ Sender → mode_of (automaton_after c.side c.stream w.seen) ≡ c.mode
