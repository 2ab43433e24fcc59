use Rattle.std.proofs.Common.{◌≡◌, All, IfOk, sym, subst}
use Rattle.amo_journal.specs.declared.version.Version.{Version}
use Rattle.amo_journal.specs.Journal.{CanSpell}
use Rattle.amo_book.specs.Book.{BookState}
use Rattle.amo_run.specs.declared.crew.Hands.{Hands}
use Rattle.amo_run.specs.declared.roster.Roster.{Roster}
use Rattle.amo_run.specs.declared.work.PumpJob.{PumpJob}
use Rattle.amo_run.specs.Crew.{AreHandsOf}
use Rattle.amo_run.proofs.Backs.{ends}
use Rattle.amo_run.proofs.whole_run.run_scripts.Goals as goal

-- pumps whose events have lines in the version that is asked for
as_told : {S C : Type 0} (r : Roster) (told asked : Version) (book : BookState) (hands : Hands S C) → told ≡ asked → AreHandsOf r asked book hands → AreHandsOf r told book hands
as_told r told asked book hands is ours = subst (λ (version : Version). AreHandsOf r version book hands) (sym is) ours

pub at_once-requires-clause-hands : goal.at_once-requires-clause-hands
at_once-requires-clause-hands g c lifetimes within = let crew = c.in_ok-book.field-0 in as_told crew.roster _ _ crew.book crew.hands c.version_of-version.ensures c.in_ok-book.ensures.ready.hands

pub settle-requires-clause-ends : goal.settle-requires-clause-ends
settle-requires-clause-ends g c = let ready = c.in_ok-book.ensures.ready in let crew = c.in_ok-book.field-0 in
    let told = as_told crew.roster _ _ crew.book crew.hands c.version_of-version.ensures ready.hands in
    ends crew.roster c.version_of-version.result (λ (j : PumpJob g.row.C.Denot). j.task.pump) crew.book crew.hands.jobs.items c.in_ok-home.home ready.all told.ours c.in_ok-home.ensures

pub returns-clause-spelt : goal.returns-clause-spelt
returns-clause-spelt g c = subst (λ (version : Version). IfOk c.settle.result (λ r. All (CanSpell version) r.events.items)) c.version_of-version.ensures c.settle.ensures.spelt
