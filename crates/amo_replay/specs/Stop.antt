-- Why a replay goes no further, and what was written by then. The writes are seen before and after, the failed calls likewise.
use Rattle.std.specs.Prelude.{◌≡◌, ℕ, ◌+◌, Option, Result, Ok, Err, List}
use Rattle.std.specs.Io.KnownBytes.{Appends}
use Rattle.amo_world.specs.declared.event.Event.{Event}
use Rattle.amo_text.specs.Sink.{AppendsFront}
use Rattle.amo_schedule.specs.declared.fault.ScheduleFault.{ScheduleFault}
use Rattle.amo_schedule.specs.declared.fault.ScheduleFault.TheVariants as schedule
use Rattle.amo_schedule.specs.declared.line.ScheduleLine.{ScheduleLine}
use Rattle.amo_replay.specs.Transcript.{applied, line_text, transcript, flatten, ending_of, AppendsWhole}
use Rattle.amo_replay.specs.declared.endings.Ending.{Ending}
use Rattle.amo_replay.specs.declared.endings.Ending.TheVariants.{Malformed}
use Rattle.amo_replay.specs.declared.fault.ToolFault.{ToolFault}
use Rattle.amo_replay.specs.declared.fault.ToolFault.TheVariants.{NoMemory, Busy, Device}
use Rattle.amo_replay.specs.declared.stop.Stop.{Stop}
use Rattle.amo_replay.specs.declared.stop.Stop.TheVariants.{Ended, Failed}

-- what a schedule's fault makes of a replay
abbrev pub stop_of : ScheduleFault → Stop
stop_of schedule.NoMemory = Failed NoMemory
stop_of (schedule.Malformed line) = Ended (Malformed line)

-- memory ran out, or the book was busy
abbrev pub IsRefusal : ToolFault → Type 0
IsRefusal NoMemory = Unit {0}
IsRefusal Busy = Unit {0}
IsRefusal Device = ⊥

-- a line that comes to this is not applied: it cannot be, memory ran out, or the book was busy
abbrev pub StopsAs : Result Event Ending → Stop → Type 0
StopsAs outcome (Ended ending) = outcome ≡ Err ending
StopsAs outcome (Failed fault) = IsRefusal fault

-- a line was not written
abbrev pub StopsWriting : List Event → ScheduleLine → Option (List ℕ) → Option (List ℕ) → ℕ → ℕ → Stop → Type 0
StopsWriting past line old new calm failed (Ended ending) = (applied past line ≡ Err ending) × (new ≡ old) × (failed ≡ calm)
StopsWriting past line old new calm failed (Failed NoMemory) = (new ≡ old) × (failed ≡ calm)
StopsWriting past line old new calm failed (Failed Busy) = (new ≡ old) × (failed ≡ calm)
StopsWriting past line old new calm failed (Failed Device) =
    (e : Event) × (applied past line ≡ Ok e) × AppendsFront old new (line_text past e) × (failed ≡ calm + 1)

-- the transcript of these lines was written, and this is how they end
abbrev pub IsWhole : List ScheduleLine → Ending → Option (List ℕ) → Option (List ℕ) → Type 0
IsWhole lines ending old new = (ending ≡ ending_of lines) × Appends old new (flatten (transcript lines))

-- the transcript of these lines, whole lines of it, or a beginning of it was written
abbrev pub StopsReplay : List ScheduleLine → Option (List ℕ) → Option (List ℕ) → ℕ → ℕ → Stop → Type 0
StopsReplay lines old new calm failed (Ended ending) = IsWhole lines ending old new × (failed ≡ calm)
StopsReplay lines old new calm failed (Failed NoMemory) = AppendsWhole lines old new × (failed ≡ calm)
StopsReplay lines old new calm failed (Failed Busy) = AppendsWhole lines old new × (failed ≡ calm)
StopsReplay lines old new calm failed (Failed Device) = AppendsFront old new (flatten (transcript lines)) × (failed ≡ calm + 1)
