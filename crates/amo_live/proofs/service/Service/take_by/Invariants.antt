use Rattle.std.specs.Prelude.{◌≡◌}
use Rattle.amo_live.specs.Callers.{IsSameLife, MovesWithin}
use Rattle.amo_live.specs.Host.{IsNoted}
use Rattle.amo_live.specs.Service.{shown_by, spelling_of, streams_of, words_of}
use Rattle.amo_live.specs.Shown.{ShowsMore}
use Rattle.amo_live.specs.Words.{BearsNew}
use Rattle.amo_live.proofs.service.Service.take_by.Given as goal

-- the journal is the same one and has all lines so far, no message was put or got without room, and what has happened is shown
abbrev pub invariant-datagrams : goal.invariant-datagrams
invariant-datagrams g l = record {
  noted : IsNoted g.S.Sink.written l.self.host;
  life : IsSameLife l.fn.self.host.pass l.self.host.pass l.fn.self.host.journal l.self.host.journal;
  moved : MovesWithin l.room l.fn.self.host.pass l.self.host.pass;
  streams : streams_of l.self ≡ streams_of l.fn.self;
  shown : ShowsMore (spelling_of l.fn.self) l.fn.self.host.pass l.self.host.pass (shown_by l.fn.self) (shown_by l.self);
  spelling : spelling_of l.self ≡ spelling_of l.fn.self;
  words : BearsNew g.W.Lineage.is_drawn (words_of l.fn.self) (words_of l.self) l.fn.self.host.pass l.self.host.pass;
}
