use Rattle.amo_book.specs.Pass.{mine}
use Rattle.amo_live.proofs.Onwards.{begins_whole}
use Rattle.amo_live.proofs.host.Host.manage.Goals as goal

pub returns-in-None-clause-begun : goal.returns-in-None-clause-begun
returns-in-None-clause-begun g c = begins_whole g.S.Sink.written c.perform.new.self.journal (mine c.perform.new.self.pass) c.in_ok-perform.ensures.noted.0
