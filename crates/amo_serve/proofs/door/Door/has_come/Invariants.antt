use Rattle.amo_live.specs.Service.{Listened}
use Rattle.amo_serve.proofs.door.Door.has_come.Given as goal

-- the service listened so far
abbrev pub invariant-looks : goal.invariant-looks
invariant-looks g l = Listened l.fn.service l.service
