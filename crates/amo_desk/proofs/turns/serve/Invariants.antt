use Rattle.std.specs.Prelude.{◌≡◌, ℕ, List, false}
use Rattle.std.specs.Io.KnownBytes.{Consumes}
use Rattle.amo_desk.specs.Serving.{Serves, moment}
use Rattle.amo_live.specs.Host.{IsNoted}
use Rattle.amo_live.specs.Service.{shown_by, spelling_of, streams_of, words_of}
use Rattle.amo_live.specs.Shown.{IsShown}
use Rattle.amo_live.specs.Words.{BearsNew}
use Rattle.amo_desk.proofs.turns.serve.Given as goal

-- the journal has all lines so far, and the messages of the client's lines were put so far
abbrev pub invariant-turns : goal.invariant-turns
invariant-turns g l = record {
  noted : IsNoted g.S.Sink.written l.service.host;
  bytes : List ℕ;
  read : Consumes (g.I.Read.remaining l.fn.desk.reader) (g.I.Read.remaining l.desk.reader) bytes;
  serves : Serves l.fn.desk.spelling l.fn.desk.puts (streams_of l.fn.service) bytes (moment l.fn.desk.input l.fn.desk.kept l.fn.service.host.pass) (moment l.desk.input l.desk.kept l.service.host.pass);
  streams : streams_of l.service ≡ streams_of l.fn.service;
  shown : IsShown (spelling_of l.fn.service) l.fn.service.host.pass l.service.host.pass (shown_by l.fn.service) (shown_by l.service) (g.O.Write.contents l.fn.desk.output) (g.O.Write.contents l.desk.output);
  words : BearsNew g.W.Lineage.is_drawn (words_of l.fn.service) (words_of l.service) l.fn.service.host.pass l.service.host.pass;
  spells : spelling_of l.service ≡ spelling_of l.fn.service;
  spelling : l.desk.spelling ≡ l.fn.desk.spelling;
  puts : l.desk.puts ≡ l.fn.desk.puts;
  unread : l.fn.desk.puts ≡ false → l.desk.reader ≡ l.fn.desk.reader;
}
