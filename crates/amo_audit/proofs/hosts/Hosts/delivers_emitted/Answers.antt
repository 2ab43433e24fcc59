use Rattle.amo_world.specs.History.{stream_before}
use Rattle.amo_audit.proofs.Kept.{at_stream}
use Rattle.amo_audit.proofs.hosts.Hosts.delivers_emitted.Goals as goal

pub returns : goal.returns
returns c = λ past all. c.delivers_emitted.ensures (stream_before past c.args.event.now) (at_stream _ past c.args.event.now.stream c.index-sides.result.now all c.requires.stream c.index-sides.ensures)
