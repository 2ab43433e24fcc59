-- Whose the passes of a book are, and so its events.
use Rattle.std.specs.Prelude.{◌≡◌, ℕ, ◌+◌, ◌-◌, ◌*◌, ◌%◌, ◌<◌, ◌≤◌, Bool, true, false, List, slice_get, Some}
use Rattle.amo_object.specs.declared.step.End.{End}
use Rattle.amo_object.specs.declared.step.End.TheVariants.{Sender, Receiver}
use Rattle.amo_core.specs.declared.act.Act.{Act}
use Rattle.amo_core.specs.declared.act.Act.TheVariants as act
use Rattle.amo_world.specs.declared.event.Event.{Event}
use Rattle.amo_run.specs.declared.part.Part.{Part}
use Rattle.amo_run.specs.declared.part.Part.TheVariants.{Both, Senders, Receivers}
use Rattle.amo_run.specs.declared.roster.Roster.{Roster}
use Rattle.amo_run.specs.Parts.{hosts_of, passes_of}

-- Clients put, get and ask what became of a put. All other acts are those of pumps.
abbrev pub is_call : Act → Bool
is_call (act.Put m) = true
is_call act.Get = true
is_call act.Ack = true
is_call (act.Start word) = false
is_call (act.Batch word) = false
is_call act.Resend = false
is_call (act.Deliver packet word) = false
is_call act.Crash = false
is_call act.Recover = false

-- how many pumps of a book stand before those of this side's host, where each host has so many
abbrev pub pumps_before : Part → ℕ → End → ℕ
pumps_before Both pumps Sender = 0
pumps_before Both pumps Receiver = pumps
pumps_before Senders pumps side = 0
pumps_before Receivers pumps side = 0

-- the number of the pump that drives a side of a stream, among those of its book: the pumps of a host share its streams by turns
abbrev pub pump_of : Part → ℕ → End → ℕ → ℕ
pump_of part pumps side stream = pumps_before part pumps side + (stream - 1) % pumps

-- the last passes are those of the pumps, and those before them the clients'
abbrev pub roster_of : Part → ℕ → ℕ → Roster
roster_of part pumps clients = record {
  part = part;
  pumps = pumps;
  first_client = passes_of part pumps clients - hosts_of part * pumps - clients;
  first_pump = passes_of part pumps clients - hosts_of part * pumps;
}

-- an event that is a call, or is none, bears such a pass: one of a client, or that of the pump that drives its side of its stream
abbrev pub BearsPass : Bool → Roster → Event → Type 0
BearsPass true r e = (r.first_client ≤ e.pass) × (e.pass < r.first_pump)
BearsPass false r e = e.pass ≡ r.first_pump + pump_of r.part r.pumps e.side e.stream

-- A call bears the pass of a client, and any other event that of the pump which drives its side of its stream.
abbrev pub IsWhose : Roster → Event → Type 0
IsWhose r e = BearsPass (is_call e.act) r e

-- the same, and its side is one of these
abbrev pub IsOneOf : Roster → List (End × ℕ) → Event → Type 0
IsOneOf r sides e = ((place : ℕ) × (slice_get sides place ≡ Some (e.side, e.stream))) × IsWhose r e
