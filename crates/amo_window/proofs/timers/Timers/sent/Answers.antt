use Rattle.std.proofs.Common.{◌≡◌, set, refl, sym, ap, ◌∙◌}
use Rattle.amo_window.specs.Timers.{streams_of, sent, changed}
use Rattle.amo_window.proofs.Rising.{Contains-at_place}
use Rattle.amo_window.proofs.TimersLemmas.{changed-absent, written, still_timed, streams_of-changed}
use Rattle.amo_window.proofs.timers.Timers.sent.Goals as goal

-- the stream's own timer is changed, in its place
now_changed : (c : goal.After-self-1) → set c.self.inside.timers.items c.in-Some.place c.sent.new.self ≡ changed (sent c.args.now) c.args.stream c.self.inside.timers.items
now_changed c =
    written (sent c.args.now) c.args.stream c.self.inside.timers.items c.in-Some.place c.index_mut.result.now c.sent.new.self
    c.self.invariant.rising (rw c.self.view_is c.in-Some.ensures.found) c.index_mut.ensures.value c.sent.ensures

pub invariant_of-self : goal.invariant_of-self
invariant_of-self c = still_timed (sent c.args.now) c.args.stream (λ t. refl) _ _ (now_changed c) c.self.invariant

pub returns-in-None-clause-timers : goal.returns-in-None-clause-timers
returns-in-None-clause-timers c = sym (changed-absent (sent c.args.now) c.args.stream c.args.self.now c.in-None.ensures.absent)

pub returns-in-Some-clause-found : goal.returns-in-Some-clause-found
returns-in-Some-clause-found c = (λ _. Contains-at_place _ c.in-Some.place c.args.stream c.in-Some.ensures.found, λ _. refl)

pub returns-in-Some-clause-timers : goal.returns-in-Some-clause-timers
returns-in-Some-clause-timers c = rw (← c.self.view_is) (now_changed c)

pub returns-in-Some-clause-streams : goal.returns-in-Some-clause-streams
returns-in-Some-clause-streams c =
    ap streams_of (returns-in-Some-clause-timers c) ∙ streams_of-changed (sent c.args.now) c.args.stream (λ t. refl) c.args.self.now
