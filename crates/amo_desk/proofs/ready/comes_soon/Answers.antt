use Rattle.amo_live.proofs.Listening.{listened_none, listened_on}
use Rattle.amo_desk.proofs.ready.comes_soon.Goals as goal

pub rounds-init : goal.rounds-init
rounds-init g c = listened_none c.args.service.now

pub rounds-preserved : goal.rounds-preserved
rounds-preserved g c = listened_on c.args.service.now c.rounds.service c.listen.new.self c.rounds.invariant c.listen.ensures.listened
