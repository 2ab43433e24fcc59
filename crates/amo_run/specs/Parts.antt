-- What stands in a book of a run.
use Rattle.std.specs.Prelude.{ℕ, ◌+◌, ◌*◌, ◌/◌, ◌%◌, ◌≤◌, min, max, List}
use Rattle.amo_object.specs.declared.step.End.{End}
use Rattle.amo_object.specs.declared.step.End.TheVariants.{Sender, Receiver}
use Rattle.amo_run.specs.Sides.{sides_from, both_sides}
use Rattle.amo_settings.specs.declared.run.RunSettings.{RunSettings}
use Rattle.amo_run.specs.declared.part.Part.{Part}
use Rattle.amo_run.specs.declared.part.Part.TheVariants.{Both, Senders, Receivers}

-- the sides of streams 1 to n at these hosts
abbrev pub sides_of : Part → ℕ → List (End × ℕ)
sides_of Both n = both_sides n
sides_of Senders n = sides_from Sender 1 n
sides_of Receivers n = sides_from Receiver 1 n

-- how many of so many clients call these sides: an even one puts, an odd one gets
abbrev pub clients_of : Part → ℕ → ℕ
clients_of Both n = n
clients_of Senders n = n / 2 + n % 2
clients_of Receivers n = n / 2

abbrev pub hosts_of : Part → ℕ
hosts_of Both = 2
hosts_of Senders = 1
hosts_of Receivers = 1

-- how many pumps a host has: not more than there are streams
abbrev pub pumps_of : RunSettings → ℕ
pumps_of s = min s.pumps s.streams

-- a pass for each pump and each client, and two at least
abbrev pub passes_of : Part → ℕ → ℕ → ℕ
passes_of part pumps clients = max (hosts_of part * pumps + clients) 2

-- there is a wire for each pump of these hosts
abbrev pub HasWires : Part → ℕ → ℕ → ℕ → Type 0
HasWires Both pumps senders receivers = (pumps ≤ senders) × (pumps ≤ receivers)
HasWires Senders pumps senders receivers = pumps ≤ senders
HasWires Receivers pumps senders receivers = pumps ≤ receivers
