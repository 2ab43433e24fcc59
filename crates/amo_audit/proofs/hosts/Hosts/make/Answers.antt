use Rattle.std.proofs.Common.{◌≡◌, rules, subst}
use Rattle.amo_core.specs.declared.act.Act.{Act}
use Rattle.amo_world.specs.Stream.{Stream, after}
use Rattle.std.proofs.lemmas.Result.{IfOk-weaker}
use Rattle.amo_audit.specs.Sides.{Represents as RepresentsSides}
use Rattle.amo_audit.proofs.Kept.{all_more}
use Rattle.amo_audit.proofs.hosts.Hosts.make.Goals as goal

pub returns : goal.returns
returns c =
    let e = c.args.event.now in
    let same : c.in_ok-act.act ≡ e.act = search rules in
    let old = c.index_mut-sides.result.now in
    let new = c.make.new.self in
    IfOk-weaker c.make.result _ _
    (λ _ makes past all. all_more _ past e old new c.requires.stream c.index_mut-sides.ensures.value
    (subst (λ (a : Act). (s : Stream) → RepresentsSides old s → RepresentsSides new (after s e.side a)) same makes) all)
    c.make.ensures
