use Rattle.std.proofs.Common.{◌≡◌, List, Some, slice_get, subst, sym, ap, ◌∙◌}
use Rattle.std.specs.List.Sorted.{IsStrictlyIncreasing}
use Rattle.amo_host.specs.declared.agenda.StreamMode.{StreamMode}
use Rattle.amo_host.specs.Host.{streams_of}
use Rattle.amo_host.proofs.ChargeLemmas.{all_rest, streams_known, timed_streams}
use Rattle.amo_host.proofs.room.Room.new.Goals as goal

pub agendas_of-requires-clause-rest : goal.agendas_of-requires-clause-rest
agendas_of-requires-clause-rest g c = λ place m at.
    all_rest c.args.charges.now c.requires.rest place m (subst (λ (ms : List StreamMode). slice_get ms place ≡ Some m) (c.deref.ensures.value ∙ c.in_ok-modes.ensures.modes) at)

pub agendas_of-requires-clause-timed : goal.agendas_of-requires-clause-timed
agendas_of-requires-clause-timed g c =
    let same = ap streams_of c.in_ok-modes.ensures.modes ∙ streams_known c.args.charges.now in
    let rising = subst IsStrictlyIncreasing (sym same) c.requires.lawful.driven.rising in
    rw c.deref.ensures.value (timed_streams (streams_of c.in_ok-modes.modes.items) rising c.in_ok-modes.ensures.streams)
