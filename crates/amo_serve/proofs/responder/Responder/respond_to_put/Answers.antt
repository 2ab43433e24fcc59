use Rattle.amo_serve.proofs.Served.{put_serves}
use Rattle.amo_serve.proofs.Sides.{put_gets_none}
use Rattle.amo_serve.proofs.Told.{tells_put}
use Rattle.amo_serve.proofs.responder.Responder.respond_to_put.Goals as goal

pub returns-clause-serves : goal.returns-clause-serves
returns-clause-serves g c =
    put_serves c.args.self.now.numbers c.put.new.self.numbers c.args.self.now.service.host.pass c.put.new.self.service.host.pass c.args.self.now.service.host.journal c.put.new.self.service.host.journal c.args.claim c.args.message c.in_ok-put.field-0 c.in_ok-put.ensures.answered

pub returns-clause-replies : goal.returns-clause-replies
returns-clause-replies g c =
    let old = c.args.self.now in let new = c.put.new.self in
    λ has. (
      c.in_ok-put.ensures.answered,
      c.in_ok-put.ensures.full,
      c.in_ok-put.ensures.why,
      λ u served. tells_put old.numbers new.numbers u old.service.host.pass new.service.host.pass old.service.host.journal new.service.host.journal c.args.claim c.args.message c.in_ok-put.field-0 served c.in_ok-put.ensures.answered,
    )

pub returns-clause-none_got : goal.returns-clause-none_got
returns-clause-none_got g c =
    put_gets_none c.args.self.now.numbers c.put.new.self.numbers c.args.self.now.service.host.pass c.put.new.self.service.host.pass c.args.self.now.service.host.journal c.put.new.self.service.host.journal c.args.claim c.args.message c.in_ok-put.field-0 c.in_ok-put.ensures.answered
