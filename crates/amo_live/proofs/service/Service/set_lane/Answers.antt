use Rattle.std.proofs.Common.{rules}
use Rattle.amo_live.proofs.Doubting.{set_says}
use Rattle.amo_live.proofs.service.Service.set_lane.Goals as goal

pub returns-then-place-len-clause-doubt : goal.returns-then-place-len-clause-doubt
returns-then-place-len-clause-doubt g c = λ has. set_says c.args.self.now.lanes.items c.args.stream c.in-Some.place c.args.lane c.in-Some.ensures.0 c.in-Some.ensures.1 (search rules)
