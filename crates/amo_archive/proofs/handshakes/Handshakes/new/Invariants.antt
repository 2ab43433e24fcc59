use Rattle.std.proofs.Common.{◌≡◌, ℕ, Some, [], length}
use Rattle.std.specs.Prelude.{slice_get}
use Rattle.amo_archive.specs.declared.handshakes.Ended.{Ended}
use Rattle.amo_archive.specs.Handshakes.{Keeps}
use Rattle.amo_archive.proofs.handshakes.Handshakes.new.Given as goal

-- so many streams, on which none has ended
abbrev pub invariant-loop-stream : goal.invariant-loop-stream
invariant-loop-stream l = record { count : length l.ended.items ≡ l._stream; none : (place : ℕ) (ended : Ended) → slice_get l.ended.items place ≡ Some ended → Keeps ended.runs.items [] }
