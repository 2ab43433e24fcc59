use Rattle.amo_book.specs.Pass.{mine}
use Rattle.amo_live.proofs.Onwards.{begins_whole}
use Rattle.amo_live.proofs.Repeating.{suits_after, tried_after}
use Rattle.amo_live.proofs.host.Host.attempt.Goals as goal

pub perform-requires-clause-suits : goal.perform-requires-clause-suits
perform-requires-clause-suits g c = suits_after c.args.self.now c.look_ahead.new.self c.args.stream c.args.act c.look_ahead.ensures.stays c.requires.suits

pub returns-clause-tried : goal.returns-clause-tried
returns-clause-tried g c =
    let la = c.look_ahead.new.self in
    tried_after c.args.self.now la c.perform.new.self c.args.stream c.args.act c.perform.result c.look_ahead.ensures.stays.side c.look_ahead.ensures.pump
    (rw c.if-outlook.false at c.in-Ok.ensures.looks) c.perform.ensures.did

pub returns-in-Err-clause-begun : goal.returns-in-Err-clause-begun
returns-in-Err-clause-begun g c = begins_whole g.S.Sink.written c.look_ahead.new.self.journal (mine c.look_ahead.new.self.pass) c.look_ahead.ensures.noted.0
