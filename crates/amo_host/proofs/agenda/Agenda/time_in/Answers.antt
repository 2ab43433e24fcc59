use Rattle.std.proofs.Common.{◌≡◌, Some, slice_get, sym, subst, ◌∙◌}
use Rattle.amo_host.specs.Host.{Host, IsHost}
use Rattle.amo_host.proofs.AtStreamLemmas.{time_known}
use Rattle.amo_host.proofs.agenda.Agenda.time_in.Goals as goal

pub returns-then-waits-clause-found : goal.returns-then-waits-clause-found
returns-then-waits-clause-found c =
    let known = time_known c.args.self.now c.args.place c.mode_in.result c.mode_in.ensures c.next_at.result (sym c.waits.ensures ∙ c.if-waits.true)
    (subst IsHost c.self.view_is c.self.invariant) c.requires
    (λ t at. c.next_at.ensures t (subst (λ (g : Host). slice_get g.timers c.args.place ≡ Some t) (sym c.self.view_is) at)) in
    known.0
