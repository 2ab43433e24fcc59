use Rattle.std.proofs.Common.{◌≡◌}
use Rattle.amo_journal.proofs.Written.{HasWritten}
use Rattle.amo_journal.proofs.writing.write_events.Given as goal

-- the heading and the lines before this one were appended, and no call failed
abbrev pub invariant-loop-number : goal.invariant-loop-number
invariant-loop-number g l = record {
  written : HasWritten l.fn.version (g.W.Sink.written l.fn.sink) (g.W.Sink.written l.sink) l.events l.number;
  calm : g.W.Sink.failures l.sink ≡ g.W.Sink.failures l.fn.sink;
}
