use Rattle.std.proofs.Common.{◌<◌, ◌≤◌, Err, arith, ap, subst, sym}
use Rattle.amo_host.specs.Host.{streams_of}
use Rattle.amo_host.proofs.DivisionLemmas.{share_least, share_greatest}
use Rattle.amo_host.proofs.PartLemmas.{part_some, part-map, part_timed}
use Rattle.amo_host.proofs.room.agenda_of_part.Goals as goal

pub new-requires-clause-some : goal.new-requires-clause-some
new-requires-clause-some c = part_some c.args.pumps c.args.place c.args.modes.now c.in_ok-part.part.items c.in_ok-part.ensures (omega (arith, c.requires.place, c.requires.few.1))

-- the window is lawful and the streams can be timed, so the agenda is refused for want of memory alone
pub unreachable-requires : goal.unreachable-requires
unreachable-requires c =
    let some : 0 < c.args.pumps = omega (arith, c.requires.place) in
    let is = part-map (λ m. m.stream) c.args.pumps c.args.place c.args.modes.now c.in_ok-part.part.items c.in_ok-part.ensures in
    let timed = part_timed c.args.pumps c.args.place (streams_of c.args.modes.now) (streams_of c.in_ok-part.part.items) some is c.requires.timed in
    let least = subst (λ w. 1 ≤ w) (sym c.share.ensures) (share_least c.args.window c.args.pumps c.args.place some c.requires.window.0) in
    let greatest = subst (λ w. w ≤ c.args.window) (sym c.share.ensures) (share_greatest c.args.window c.args.pumps c.args.place some) in
    c.in-Err-Limits.ensures.limits (ap (λ e. Err e) c.in-Err-Limits.field-0-is) timed least (omega (arith, greatest, c.requires.window.1))
