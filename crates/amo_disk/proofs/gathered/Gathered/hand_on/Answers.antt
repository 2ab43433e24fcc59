use Rattle.std.proofs.Common.{◌≡◌, ◌∙◌, rules}
use Rattle.amo_text.proofs.Written.{Appends-more, within_rest}
use Rattle.amo_disk.proofs.Writers.{refused_behind}
use Rattle.amo_disk.proofs.gathered.Gathered.hand_on.Goals as goal

pub loop-done-preserved : goal.loop-done-preserved
loop-done-preserved g c = record {
  within = within_rest _ _ _ c.loop-done.invariant.within (rw c.as_slice.ensures.value at c.in-Ok.ensures.count.0);
  appended = Appends-more _ _ _ _ _ _ c.loop-done.invariant.appended (rw c.as_slice.ensures.value at c.in-Ok.ensures.ok);
  calm = c.in-Ok.ensures.calm ∙ c.loop-done.invariant.calm;
  same = c.loop-done.invariant.same;
}

pub returns-in-Err-clause-refused : goal.returns-in-Err-clause-refused
returns-in-Err-clause-refused g c =
    let same_sink : c.self.inside.sink ≡ c.args.self.now.sink = search rules in
    let same_items : c.loop-done.self-inside.room.items ≡ c.args.self.now.waiting = search rules in
    refused_behind g.S.Sink.refused g.S.Sink.written _ _ c.loop-done.self-inside.sink c.write.new.self _ _ _ c.loop-done.done same_sink same_items c.as_slice.ensures.value c.loop-done.invariant.within c.loop-done.invariant.appended c.in-Err.ensures.refused
