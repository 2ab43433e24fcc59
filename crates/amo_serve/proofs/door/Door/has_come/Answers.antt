use Rattle.amo_live.proofs.Listening.{listened_none, listened_on}
use Rattle.amo_serve.proofs.door.Door.has_come.Goals as goal

pub looks-init : goal.looks-init
looks-init g c = listened_none c.args.service.now

pub looks-preserved : goal.looks-preserved
looks-preserved g c = listened_on c.args.service.now c.looks.service c.listen.new.self c.looks.invariant c.listen.ensures.listened
