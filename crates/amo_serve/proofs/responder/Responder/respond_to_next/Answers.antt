use Rattle.amo_serve.proofs.Served.{unclaimed_serves}
use Rattle.amo_serve.proofs.Sides.{unclaimed_gets_none}
use Rattle.amo_serve.proofs.Told.{tells_unclaimed}
use Rattle.amo_serve.proofs.responder.Responder.respond_to_next.Goals as goal

pub returns-clause-serves : goal.returns-clause-serves
returns-clause-serves g c =
    unclaimed_serves c.args.self.now.numbers c.put_unclaimed.new.self.numbers c.args.self.now.service.host.pass c.put_unclaimed.new.self.service.host.pass c.args.self.now.service.host.journal c.put_unclaimed.new.self.service.host.journal c.args.stream c.args.message c.in_ok-put_unclaimed.field-0
    c.in_ok-put_unclaimed.ensures.answered

pub returns-clause-replies : goal.returns-clause-replies
returns-clause-replies g c =
    let old = c.args.self.now in let new = c.put_unclaimed.new.self in
    λ has next. (
      c.in_ok-put_unclaimed.ensures.answered,
      c.in_ok-put_unclaimed.ensures.full,
      c.in_ok-put_unclaimed.ensures.why,
      λ u served. tells_unclaimed old.numbers new.numbers u old.service.host.pass new.service.host.pass old.service.host.journal new.service.host.journal c.args.stream c.args.message c.in_ok-put_unclaimed.field-0 served c.in_ok-put_unclaimed.ensures.answered,
    )

pub returns-clause-none_got : goal.returns-clause-none_got
returns-clause-none_got g c =
    unclaimed_gets_none c.args.self.now.numbers c.put_unclaimed.new.self.numbers c.args.self.now.service.host.pass c.put_unclaimed.new.self.service.host.pass c.args.self.now.service.host.journal c.put_unclaimed.new.self.service.host.journal c.args.stream c.args.message c.in_ok-put_unclaimed.field-0
    c.in_ok-put_unclaimed.ensures.answered
