use Rattle.amo_live.specs.Service.{Listened}
use Rattle.amo_serve.proofs.door.Door.comes_soon.Given as goal

-- the service listened so far
abbrev pub invariant-rounds : goal.invariant-rounds
invariant-rounds g l = Listened l.fn.service l.service
