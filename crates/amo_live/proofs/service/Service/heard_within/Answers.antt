use Rattle.std.proofs.Common.{refl, rules}
use Rattle.amo_live.proofs.Listening.{listened_none, listened_on}
use Rattle.amo_live.proofs.service.Service.heard_within.Goals as goal

pub looks-init : goal.looks-init
looks-init g c = record { listened = listened_none c.args.self.now; same = refl }

pub looks-preserved : goal.looks-preserved
looks-preserved g c = record {
  listened = listened_on c.args.self.now c.looks.self (record c.looks.self { host = c.hear.new.self }) c.looks.invariant.listened (c.hear.ensures.same, refl, refl, refl, refl);
  same = search rules;
}
