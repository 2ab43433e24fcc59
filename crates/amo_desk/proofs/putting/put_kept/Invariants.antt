use Rattle.std.specs.Prelude.{◌≡◌, []}
use Rattle.amo_desk.specs.Serving.{Moves}
use Rattle.amo_live.specs.Host.{IsNoted}
use Rattle.amo_live.specs.Service.{shown_by, spelling_of, streams_of, words_of}
use Rattle.amo_live.specs.Shown.{ShowsMore}
use Rattle.amo_live.specs.Words.{BearsNew}
use Rattle.amo_desk.proofs.putting.put_kept.Given as goal

-- the journal has all lines so far, and what waited was put in its order so far
abbrev pub invariant-streams : goal.invariant-streams
invariant-streams g l = record {
  noted : IsNoted g.S.Sink.written l.service.host;
  moves : Moves [] l.fn.kept l.kept l.fn.service.host.pass l.service.host.pass;
  streams : streams_of l.service ≡ streams_of l.fn.service;
  shown : ShowsMore (spelling_of l.fn.service) l.fn.service.host.pass l.service.host.pass (shown_by l.fn.service) (shown_by l.service);
  words : BearsNew g.W.Lineage.is_drawn (words_of l.fn.service) (words_of l.service) l.fn.service.host.pass l.service.host.pass;
  spells : spelling_of l.service ≡ spelling_of l.fn.service;
}
