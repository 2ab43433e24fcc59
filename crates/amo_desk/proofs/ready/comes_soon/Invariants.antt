use Rattle.amo_live.specs.Service.{Listened}
use Rattle.amo_desk.proofs.ready.comes_soon.Given as goal

-- the service listened so far
abbrev pub invariant-rounds : goal.invariant-rounds
invariant-rounds g l = Listened l.fn.service l.service
