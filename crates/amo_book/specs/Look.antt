-- How a side stands, looked up.
use Rattle.std.specs.Prelude.{◌≡◌, ℕ}
use Rattle.amo_object.specs.declared.step.End.{End}
use Rattle.amo_object.specs.declared.step.End.TheVariants.{Sender}
use Rattle.amo_core.specs.declared.summary.Summary.{Summary}
use Rattle.amo_core.specs.Summary.{summary_of}
use Rattle.amo_world.specs.History.{Extends}
use Rattle.amo_book.specs.Pass.{PassState, IsSamePass, automaton_after}
use Rattle.amo_book.specs.Charge.{ChargeState}

-- The pass made no event, and has seen what others did meanwhile: after that a side of a stream stands so.
pub record Stands (v w : PassState) (side : End) (stream : ℕ) (summary : Summary) : Type 0 where
  pub same : IsSamePass v w
  pub extends : Extends w.seen v.seen
  pub tells : summary ≡ summary_of (automaton_after side stream w.seen)

-- the charge's side stands so; a sender was found in the mode that its charge holds
abbrev pub Finds : PassState → PassState → ChargeState → Summary → Type 0
Finds v w c summary = Stands v w c.side c.stream summary × (c.side ≡ Sender → summary.mode ≡ c.mode)
