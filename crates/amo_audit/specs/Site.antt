-- What a merge hands its events to.
use Rattle.std.specs.Prelude.{◌≡◌, List, ◌∷◌}
use Rattle.amo_world.specs.declared.event.Event.{Event}
use Rattle.amo_world.specs.History.{DeliversEmitted}
use Rattle.amo_audit.specs.declared.site.Offered.{Offered}
use Rattle.amo_audit.specs.declared.site.Offered.TheVariants.{Taken, Unsent, GivenUp}

-- given what it is to have taken events, the newest first, and whether it may be given up
module _ {S : Type 0} (HasTaken : S → List Event → Type 0) (MayEnd : Type 0) where
  -- what became of an event that was offered behind a history
  abbrev pub Answers : S → List Event → Event → Offered → Type 0
  Answers now past event Taken = DeliversEmitted past event × HasTaken now (event ∷ past)
  Answers now past event (Unsent same) = (same ≡ event) × (¬ (DeliversEmitted past event)) × HasTaken now past
  Answers now past event GivenUp = MayEnd
