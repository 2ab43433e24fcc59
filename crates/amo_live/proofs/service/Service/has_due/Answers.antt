use Rattle.amo_live.proofs.Dues.{due_if_come, none_if_none}
use Rattle.amo_live.proofs.service.Service.has_due.Goals as goal

pub returns-in-Some : goal.returns-in-Some
returns-in-Some g c = due_if_come c.args.self.now.host.pump.host c.args.now c.in-Some.due c.in-Some.ensures

pub returns-in-None : goal.returns-in-None
returns-in-None g c = none_if_none c.args.self.now.host.pump.host c.args.now c.in-None.ensures
