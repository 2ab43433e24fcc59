-- Events that a journal has a line for.
use Rattle.std.specs.Prelude.{◌≡◌, ℕ, List, Some, All, slice_get}
use Rattle.amo_object.specs.declared.step.End.{End}
use Rattle.amo_world.specs.declared.event.Event.{Event}
use Rattle.amo_journal.specs.declared.version.Version.{Version}
use Rattle.amo_journal.specs.Journal.{HasAct, HasReply}

-- The event is of one of these sides. Its act is one of that side's in this version, and its reply one of its act's. And it is one that may be made.
pub record Fits (version : Version) (sides : List (End × ℕ)) (may_be : Event → Type 0) (e : Event) : Type 0 where
  pub place : ℕ
  pub at : slice_get sides place ≡ Some (e.side, e.stream)
  pub act : HasAct version e.side e.stream e.act
  pub reply : HasReply e.act e.reply
  pub made : may_be e

-- each of these events does
abbrev pub AllFit : Version → List (End × ℕ) → (Event → Type 0) → List (ℕ × Event) → Type 0
AllFit version sides may_be made = All (λ one. Fits version sides may_be one.1) made
