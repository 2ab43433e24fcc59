-- What is chosen is within its limits.
use Rattle.std.proofs.Common.{List}
use Rattle.clap.specs.Words.{Row, Text}
use Rattle.amo_settings.specs.Limits.{IsSideWithin, IsWithin}
use Rattle.amo_arguments.specs.Chosen.{Chooses, ChoosesBy, HasSide, Met}
use Rattle.amo_settings.specs.declared.settings.ServedSide.{ServedSide}
use Rattle.amo_settings.specs.declared.settings.ServedSide.TheVariants as side
use Rattle.amo_settings.specs.declared.settings.Settings.{Settings}
use Rattle.amo_settings.specs.declared.settings.Settings.TheVariants.{Replay, Run, Send, Receive, Stop, Serve, Call, Audit, Explain, Outcomes, Got, Manual, Completions}

-- on each side
within_side : (rows : List Row) (s : ServedSide) → HasSide rows s → IsSideWithin s
within_side rows (side.Send send) h = h.1.within
within_side rows (side.Receive receive) h = h.1.within

-- by each command
within_by : (met : Met) (chosen : Settings) → ChoosesBy met chosen → IsWithin chosen
within_by met (Replay file) h = tt
within_by met (Run settings file) h = h.2.0.within
within_by met (Send send) h = h.2.host.within
within_by met (Receive receive) h = h.2.host.within
within_by met (Stop file) h = tt
within_by met (Serve serve) h = within_side h.0 serve.side h.2.side_is
within_by met (Call settings) h = tt
within_by met (Audit file second) h = tt
within_by met (Explain file second) h = tt
within_by met (Outcomes settings) h = tt
within_by met (Got settings) h = tt
within_by met Manual h = tt
within_by met (Completions shell) h = tt

pub within : (arguments : List Text) (chosen : Settings) → Chooses arguments chosen → IsWithin chosen
within arguments chosen h = within_by _ chosen h.2.2
