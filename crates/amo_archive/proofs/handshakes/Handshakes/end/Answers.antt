use Rattle.std.proofs.Common.{◌≤◌, length, rules}
use Rattle.std.proofs.lemmas.Result.{on_ok_weaker}
use Rattle.amo_archive.proofs.Endings.{one_ended}
use Rattle.amo_archive.proofs.handshakes.Handshakes.end.Goals as goal

pub returns-clause-ended : goal.returns-clause-ended
returns-clause-ended c =
    let streams = c.args.self.now.streams.items in
    let within : (1 ≤ c.args.stream) × (c.args.stream ≤ length streams) = search rules in
    on_ok_weaker c.end.result
    (λ step ends each. one_ended streams c.index_mut.result.now c.end.new.self c.args.stream (c.args.messages, c.args.was_got) ends within c.index_mut.ensures.value step each) c.end.ensures
