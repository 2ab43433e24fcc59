-- Calls under way.
use Rattle.std.specs.Prelude.{◌≡◌, ℕ, List}
use Rattle.amo_call.specs.declared.kept.Progress.TheVariants as progress
use Rattle.amo_call.specs.declared.taking.TakeTold.{TakeTold}
use Rattle.amo_call.specs.declared.taking.TakeTold.TheVariants as taken
use Rattle.amo_call.specs.declared.taking.AfterTake.{AfterTake}
use Rattle.amo_call.specs.declared.taking.AfterTake.TheVariants as take
use Rattle.amo_call.specs.Kept.{kept_text}

-- where a message is told that was taken, this is the text of its file: it was taken for that claim, by that line
abbrev pub HasToldTake : List ℕ → TakeTold → Type 0
HasToldTake saved (taken.Taken claim line message) = saved ≡ kept_text (record { claim = claim; progress = progress.Taken line message })
HasToldTake saved _ = Unit {0}

-- the same; and where a take goes on, this is the text of the call that is made next
abbrev pub HasTake : List ℕ → AfterTake → Type 0
HasTake saved (take.Told told) = HasToldTake saved told
HasTake saved (take.Turn kept) = saved ≡ kept_text kept
