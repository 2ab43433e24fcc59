use Rattle.std.proofs.Common.{reverse}
use Rattle.amo_world.proofs.Serving.{serves}
use Rattle.amo_audit.specs.declared.verdict.Verdict.TheVariants.{Yes}
use Rattle.amo_audit.proofs.Exchanged.{merged_streams}
use Rattle.amo_audit.proofs.Greedy.{preferred_interleaves}
use Rattle.amo_audit.proofs.Judged.{merge_judged, told_streams}
use Rattle.amo_audit.proofs.both.runs_of_both.Goals as goal

pub runs_of_events-requires : goal.runs_of_events-requires
runs_of_events-requires c =
    let (x, y, p, q, (apart, preferred)) = rw c.in-Ok-Some.field-0-is at c.in-Ok-Some.ensures.merged in
    rw c.as_slice.ensures.value
    (merged_streams x y c.in-Ok-Some.events.items (told_streams c.args.first x p) (told_streams c.args.second y q) (preferred_interleaves _ x y c.in-Ok-Some.events.items preferred))

pub returns-in-Ok-clause-good : goal.returns-in-Ok-clause-good
returns-in-Ok-clause-good c =
    let (x, y, p, q, (apart, preferred)) = rw c.in-Ok-Some.field-0-is at c.in-Ok-Some.ensures.merged in
    let sound = rw c.as_slice.ensures.value at c.in-Ok.ensures.sound in
    merge_judged c.args.first c.args.second x y c.in-Ok-Some.events.items Yes p q apart preferred
    (sound, λ number. serves number (reverse c.in-Ok-Some.events.items) sound.0 sound.1 sound.2)

pub returns-clause-judged : goal.returns-clause-judged
returns-clause-judged c =
    let (x, y, p, q, (apart, preferred)) = rw c.in-Ok-Some.field-0-is at c.in-Ok-Some.ensures.merged in
    let judged = rw c.as_slice.ensures.value at c.in-Err-runs_of_events.ensures.judged in
    (merge_judged c.args.first c.args.second x y c.in-Ok-Some.events.items c.in-Err-runs_of_events.verdict p q apart preferred judged.0, λ e. judged.1 cc)
