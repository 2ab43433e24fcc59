use Rattle.std.proofs.Common.{sym, subst, ap, ◌∙◌}
use Rattle.amo_run.specs.Crew.{EachAt, IsHome, joined}
use Rattle.amo_run.specs.Roster.{IsWhose}
use Rattle.amo_run.proofs.Crews.{home_more, events_more, fit_more}
use Rattle.amo_run.proofs.home.Home.take.Goals as goal

pub returns-clause-so_far : goal.returns-clause-so_far
returns-clause-so_far c = let e = c.push_reserved.ensures.items in record {
  passes = subst (EachAt (IsHome c.args.book.now) 0) (sym e) (home_more c.args.version (IsWhose c.args.roster) c.args.book.now _ _ c.args.made c.requires.so_far.passes c.requires.made);
  events = λ l. let t = c.is_short-self.ensures l in
      events_more c.args.version (IsWhose c.args.roster) c.args.book.now _ _ c.args.made _ _ _ c.add_events-is_kept.result c.requires.made c.requires.so_far.events c.add_events-is_kept.ensures t.0 t.1 ∙ ap joined (sym e);
  fit = λ l. let t = c.is_short-self.ensures l in
      fit_more c.args.version (IsWhose c.args.roster) c.args.book.now _ _ c.args.made _ _ _ c.add_events-is_kept.result c.requires.made c.requires.so_far.fit c.add_events-is_kept.ensures t.0 t.1;
}
