use Rattle.std.specs.Prelude.{◌≡◌}
use Rattle.amo_live.specs.Host.{IsNoted}
use Rattle.amo_live.specs.Service.{words_of}
use Rattle.amo_live.specs.Words.{BearsNew}
use Rattle.amo_serve.specs.Serving.{MovesAs, Serves}
use Rattle.amo_serve.proofs.turns.serve_door.Given as goal

-- the journal has all lines so far, and what was put or got so far was put or got by turns of callers, as the host's side is
abbrev pub invariant-turns : goal.invariant-turns
invariant-turns g l = record {
  noted : IsNoted g.S.Sink.written l.responder.service.host;
  serves : Serves l.fn.responder.numbers l.responder.numbers l.fn.responder.service.host.pass l.responder.service.host.pass l.fn.responder.service.host.journal l.responder.service.host.journal;
  words : BearsNew g.W.Lineage.is_drawn (words_of l.fn.responder.service) (words_of l.responder.service) l.fn.responder.service.host.pass l.responder.service.host.pass;
  side : l.responder.side ≡ l.fn.responder.side;
  alone : MovesAs l.fn.responder.side l.fn.responder.service.host.pass l.responder.service.host.pass;
}
