use Rattle.std.proofs.Common.{List, All, sym, ap, subst}
use Rattle.amo_world.specs.declared.event.Event.{Event}
use Rattle.amo_journal.specs.declared.version.Version.{Version}
use Rattle.amo_journal.specs.Journal.{CanSpell}
use Rattle.amo_run.specs.Versions.{version_for}
use Rattle.amo_run.proofs.whole_run.run_apart.Goals as goal

pub returns-clause-spelt : goal.returns-clause-spelt
returns-clause-spelt g c =
    let told = c.in_ok-one-2.ensures.spelt in
    let asked : Version = version_for c.args.settings.now.batch in
    let lines : (events : List Event) → All (CanSpell c.version_of.result) events → All (CanSpell asked) events = λ events h. subst (λ (version : Version). All (CanSpell version) events) c.version_of.ensures h in
    (subst (All (CanSpell asked)) (sym (ap (λ v. v.items) c.of_two.ensures.senders.0)) (lines _ told.0), subst (All (CanSpell asked)) (sym (ap (λ v. v.items) c.of_two.ensures.receivers.0)) (lines _ told.1))
