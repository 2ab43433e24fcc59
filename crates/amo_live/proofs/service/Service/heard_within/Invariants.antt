use Rattle.std.specs.Prelude.{◌≡◌}
use Rattle.amo_live.specs.Service.{Listened}
use Rattle.amo_live.proofs.service.Service.heard_within.Given as goal

-- it listened so far
abbrev pub invariant-looks : goal.invariant-looks
invariant-looks g l = record {
  listened : Listened l.fn.self l.self;
  same : l.self ≡ record l.fn.self { host = l.self.host };
}
