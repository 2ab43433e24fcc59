use Rattle.std.proofs.Common.{rules, sym, ap, subst, ◌∙◌, arith}
use Rattle.amo_window.specs.Timers.{streams_of, CanBeTimed}
use Rattle.amo_window.proofs.TimersLemmas.{streams_of-resting}
use Rattle.amo_window.proofs.timers.Timers.paced.Goals as goal

-- the timers are those of the streams, which are few and rise
pub invariant_of-result : goal.invariant_of-result
invariant_of-result c =
    let timed : CanBeTimed c.args.streams.now = record { few = omega arith; rising = c.is_rising.ensures.0 (search rules) } in
    subst CanBeTimed (sym (ap streams_of c.in_ok-timers.ensures.each ∙ streams_of-resting c.args.pace c.args.streams.now)) timed
