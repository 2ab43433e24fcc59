use Rattle.std.proofs.Common.{arith, length, sym}
use Rattle.std.proofs.lemmas.Bool.{ltb-true, ltb-false}
use Rattle.std.proofs.lemmas.List.{length_push}
use Rattle.std.proofs.lemmas.Option.{slice_get_past}
use Rattle.amo_host.proofs.PartLemmas.{part_push, part_end}
use Rattle.amo_host.proofs.StationLemmas.{read_at}
use Rattle.amo_host.proofs.room.part_of.Goals as goal

pub loop-mode-preserved : goal.loop-mode-preserved
loop-mode-preserved c =
    let i = c.loop-mode.invariant in
    let pushed = c.in_ok-push.ensures.items in
    let found = c.in-Some.ensures.lookup in
    let within = ltb-true c.loop-mode.place (length c.args.modes.now) (sym found.0) in
    let at = read_at c.args.modes.now c.loop-mode.place c.in-Some.mode.now within found.1 in
    record {
      place = rw (pushed, length_push) (omega (arith, i.place));
      each = rw pushed (part_push c.args.pumps c.args.first c.args.modes.now c.loop-mode.part.items c.loop-mode.place i.place i.each c.in-Some.mode.now at);
    }

pub returns : goal.returns
returns c =
    let i = c.loop-mode.invariant in
    let past = ltb-false c.loop-mode.place (length c.args.modes.now) (sym c.in_default.ensures.lookup.0) in
    part_end c.args.pumps c.args.first c.args.modes.now c.loop-mode.part.items c.loop-mode.place i.place i.each (slice_get_past c.args.modes.now c.loop-mode.place past)
