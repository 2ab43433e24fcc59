use Rattle.std.proofs.Common.{◌≡◌, Some, None, Bool, cond, set, refl, sym, ap, subst, ◌∙◌}
use Rattle.std.proofs.lemmas.Option.{same_Some}
use Rattle.amo_host.specs.declared.agenda.StreamMode.{StreamMode}
use Rattle.amo_host.specs.Agenda.{host_of}
use Rattle.amo_host.specs.Handshakes.{Held}
use Rattle.amo_host.specs.Host.{Noted}
use Rattle.amo_host.proofs.HostLemmas.{noted_host, at_read}
use Rattle.amo_host.proofs.agenda.Agenda.note.Goals as goal

pub invariant_of-self : goal.invariant_of-self
invariant_of-self c =
    let h = host_of c.self.inside in
    let here = at_read h c.args.place c.index.result.now (rw (← c.self.view_is) at c.requires.place) c.index.ensures in
    noted_host h c.args.place c.set.new.self.limit c.index.result.now c.args.mode c.set.new.self.streams c.retime.new.timers c.self.invariant here
    (ap (λ (x : Held). x.streams) c.set.ensures.set ∙ ap (λ (b : Bool). set c.self.inside.handshakes.streams c.args.place (cond b (Some c.index.result.now.stream) None)) c.holds_handshake.ensures) c.set.ensures.bounded c.retime.ensures.streams

pub returns-clause-host : goal.returns-clause-host
returns-clause-host c = invariant_of-self c

pub returns-clause-noted : goal.returns-clause-noted
returns-clause-noted c = λ l at.
    let h = host_of c.self.inside in
    let here = at_read h c.args.place c.index.result.now (rw (← c.self.view_is) at c.requires.place) c.index.ensures in
    let same : c.index.result.now ≡ l = same_Some _ _ (sym here ∙ (rw (← c.self.view_is) at at)) in
    rw (← c.self.view_is) (subst (λ (x : StreamMode). Noted h (record h { modes = set h.modes c.args.place (record c.index.result.now { mode = c.args.mode }); limit = c.set.new.self.limit; permits = c.set.new.self.streams; timers = c.retime.new.timers }) c.args.place x c.args.resent c.args.mode c.args.now) same (record {
      modes = refl;
      kept = c.is_same-kept.result;
      is_kept = c.is_same-kept.ensures;
      timers = c.retime.ensures.timers;
      side = refl;
      limit = ap (λ (x : Held). x.limit) c.set.ensures.set;
      rotation = refl;
    }))
