use Rattle.std.specs.Prelude.{◌≡◌}
use Rattle.amo_live.specs.Host.{IsNoted}
use Rattle.amo_live.specs.Service.{words_of}
use Rattle.amo_live.specs.Words.{BearsNew}
use Rattle.amo_serve.specs.Serving.{MovesAs, Serves}
use Rattle.amo_serve.proofs.responder.Responder.serve_waiters.Given as goal

-- the clients whose wait is over so far were answered
abbrev pub invariant-waiters : goal.invariant-waiters
invariant-waiters g l = record {
  noted : IsNoted g.S.Sink.written l.self.service.host;
  serves : Serves l.fn.self.numbers l.self.numbers l.fn.self.service.host.pass l.self.service.host.pass l.fn.self.service.host.journal l.self.service.host.journal;
  words : BearsNew g.W.Lineage.is_drawn (words_of l.fn.self.service) (words_of l.self.service) l.fn.self.service.host.pass l.self.service.host.pass;
  side : l.self.side ≡ l.fn.self.side;
  alone : MovesAs l.fn.self.side l.fn.self.service.host.pass l.self.service.host.pass;
}
