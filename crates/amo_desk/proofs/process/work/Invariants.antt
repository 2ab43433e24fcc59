use Rattle.amo_live.specs.Host.{IsNoted}
use Rattle.amo_desk.proofs.process.work.Given as goal

-- the journal has all lines so far
abbrev pub invariant-loop-stream : goal.invariant-loop-stream
invariant-loop-stream g l = IsNoted g.S.Sink.written l.service.host
