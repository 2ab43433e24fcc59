use Rattle.std.proofs.lemmas.Result.{IfErr-weaker, on_ok_weaker}
use Rattle.amo_world.specs.History.{stream_before}
use Rattle.amo_audit.proofs.Lone.{all_more, at_stream, refused_there}
use Rattle.amo_audit.proofs.lone_auditor.take.Goals as goal

pub returns-clause-taken : goal.returns-clause-taken
returns-clause-taken c =
    let e = c.args.event.now in
    let old = c.index_mut-sides.result.now in
    on_ok_weaker c.take.result (λ made past all.
    let t = made (stream_before past e) (at_stream _ past e.stream old all c.requires.stream c.index_mut-sides.ensures.value) in
    (t.0, t.1, all_more _ past e old c.take.new.self c.requires.stream c.index_mut-sides.ensures.value t.2 all)) c.take.ensures.taken

pub returns-clause-refused : goal.returns-clause-refused
returns-clause-refused c =
    let e = c.args.event.now in
    let old = c.index_mut-sides.result.now in
    IfErr-weaker c.take.result _ _ (λ fault refused past all.
    refused_there past e fault (refused (stream_before past e) (at_stream _ past e.stream old all c.requires.stream c.index_mut-sides.ensures.value))) c.take.ensures.refused
