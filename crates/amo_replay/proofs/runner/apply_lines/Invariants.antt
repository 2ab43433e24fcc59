use Rattle.std.proofs.Common.{◌≡◌, length}
use Rattle.amo_replay.specs.Hosts.{Agree}
use Rattle.amo_replay.specs.Sides.{IsOwn}
use Rattle.amo_replay.proofs.Replays.{IsReplayedTo}
use Rattle.amo_replay.proofs.runner.apply_lines.Given as goal

-- the lines so far were applied and written, if pass 0 has seen no other events; and what is left are lines
abbrev pub invariant-loop-page : goal.invariant-loop-page
invariant-loop-page g l = record {
  agree : Agree l.hosts;
  to : IsOwn l.hosts.seen → IsReplayedTo l.initial.schedule l.schedule l.hosts.history (g.W.Sink.written l.initial.sink) (g.W.Sink.written l.sink);
  calm : g.W.Sink.failures l.sink ≡ g.W.Sink.failures l.initial.sink;
}

abbrev pub decreases-loop-page : goal.decreases-loop-page
decreases-loop-page g l = length l.schedule
