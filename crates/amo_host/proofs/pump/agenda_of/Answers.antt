use Rattle.std.proofs.Common.{◌≡◌, List, Some, slice_get, subst, sym, ap, ◌∙◌}
use Rattle.std.specs.List.Sorted.{IsStrictlyIncreasing}
use Rattle.amo_host.specs.declared.agenda.StreamMode.{StreamMode}
use Rattle.amo_host.specs.Host.{streams_of}
use Rattle.amo_host.proofs.ChargeLemmas.{all_rest, streams_known, timed_streams}
use Rattle.amo_host.proofs.pump.agenda_of.Goals as goal

pub paced-requires-clause-rest : goal.paced-requires-clause-rest
paced-requires-clause-rest c = λ place m at.
    all_rest c.args.charges.now c.requires.rest place m (subst (λ (ms : List StreamMode). slice_get ms place ≡ Some m) c.in_ok-modes.ensures.modes at)

-- the charges are lawful, so the agenda is refused for want of memory alone
pub returns-clause-limits : goal.returns-clause-limits
returns-clause-limits c = λ limits.
    let same = ap streams_of c.in_ok-modes.ensures.modes ∙ streams_known c.args.charges.now in
    let rising = subst IsStrictlyIncreasing (sym same) c.requires.lawful.rising in
    c.paced.ensures.limits limits (timed_streams (streams_of c.in_ok-modes.modes.items) rising c.in_ok-modes.ensures.streams) c.requires.lawful.least c.requires.lawful.greatest
