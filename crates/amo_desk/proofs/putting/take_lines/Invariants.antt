use Rattle.std.specs.Prelude.{◌≡◌, []}
use Rattle.amo_desk.specs.Serving.{Serves, moment}
use Rattle.amo_live.specs.Host.{IsNoted}
use Rattle.amo_live.specs.Service.{shown_by, spelling_of, streams_of, words_of}
use Rattle.amo_live.specs.Shown.{ShowsMore}
use Rattle.amo_live.specs.Words.{BearsNew}
use Rattle.amo_desk.proofs.putting.take_lines.Given as goal

-- the journal has all lines so far, and the messages of the client's lines were put so far
abbrev pub invariant-lines : goal.invariant-lines
invariant-lines g l = record {
  noted : IsNoted g.S.Sink.written l.service.host;
  serves : Serves l.fn.desk.spelling l.fn.desk.puts (streams_of l.fn.service) [] (moment l.fn.desk.input l.fn.desk.kept l.fn.service.host.pass) (moment l.desk.input l.desk.kept l.service.host.pass);
  streams : streams_of l.service ≡ streams_of l.fn.service;
  shown : ShowsMore (spelling_of l.fn.service) l.fn.service.host.pass l.service.host.pass (shown_by l.fn.service) (shown_by l.service);
  words : BearsNew g.W.Lineage.is_drawn (words_of l.fn.service) (words_of l.service) l.fn.service.host.pass l.service.host.pass;
  spells : spelling_of l.service ≡ spelling_of l.fn.service;
  same : l.desk ≡ record l.fn.desk { input = l.desk.input; kept = l.desk.kept; has_more = l.desk.has_more };
}
