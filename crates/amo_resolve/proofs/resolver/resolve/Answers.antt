use Rattle.std.proofs.Common.{◌≡◌, ◌+◌, ◌≤◌, ℕ, List, reverse, sym, ◌∙◌, ap, subst, inl, inr, arith}
use Rattle.amo_world.proofs.Worlds.{untrue}
use Rattle.amo_object.specs.declared.step.Step.{Step}
use Rattle.amo_world.specs.Served.{calls}
use Rattle.amo_resolve.specs.declared.calls.Seen.{Seen}
use Rattle.amo_resolve.specs.declared.resolver.Run.{Run}
use Rattle.amo_resolve.specs.Explanation.{Explains, IsExplained}
use Rattle.amo_resolve.proofs.Gathering.{SoFar, nothing_yet, one_run_more, no_run_more, all_gathered, explained_calls}
use Rattle.amo_resolve.proofs.Seeing.{AreLeft, all_left, next_left}
use Rattle.amo_resolve.proofs.resolver.resolve.Goals as goal

pub loop-place-init : goal.loop-place-init
loop-place-init c =
    let it = c.into_iter-place-iterator.result in
    let items : it.b.rest.items ≡ c.in_ok-streams.streams.items = cc in
    let start : it.a.start ≡ 0 = cc in
    let end : it.a.end ≡ 256 = cc in
    record {
      can_next = (tt, tt);
      is_finite = tt;
      end = end;
      left = rw (items, start) (all_left c.in_ok-streams.streams.items c.args.events.now c.in_ok-streams.ensures.seen);
      so_far = rw (c.new-runs.ensures.items, start) (nothing_yet c.args.events.now c.requires);
    }

pub explained-requires : goal.explained-requires
explained-requires c =
    let start = c.loop-place.place-iterator.a.start in
    let events = c.args.events.now in
    let sound = c.in_ok-streams.ensures.sound in
    let left = subst (λ (rest : List Seen). AreLeft rest start events) c.in-Some.ensures.steps.1.0 c.loop-place.invariant.left in
    let seen = (next_left c.in-Some.seen c.next.new.self.b.rest.items start events left).0 in
    subst (λ (steps : List Step). IsExplained steps) (sym seen.calls) (explained_calls (start + 1) (reverse events) sound.0 sound.1 sound.2)

pub loop-place-preserved-in-Ok : goal.loop-place-preserved-in-Ok
loop-place-preserved-in-Ok c =
    let i = c.loop-place.invariant in
    let steps = c.in-Some.ensures.steps in
    let start = c.loop-place.place-iterator.a.start in
    let next = c.next.new.self.a.start in
    let events = c.args.events.now in
    let more : start + 1 ≡ next = omega (arith, steps.0) in
    let both = next_left c.in-Some.seen c.next.new.self.b.rest.items start events (subst (λ (rest : List Seen). AreLeft rest start events) steps.1.0 i.left) in
    let run : Run = record { stream = c.in-Some.place + 1; steps = c.in_ok-steps.steps } in
    let stream : run.stream ≡ start + 1 = omega (arith, steps.0) in
    let told : Explains c.in_ok-steps.steps.items (calls run.stream (reverse events)) =
    subst (λ (them : List Step). Explains c.in_ok-steps.steps.items them) (both.0.calls ∙ ap (λ (number : ℕ). calls number (reverse events)) (sym stream)) c.in_ok-steps.ensures in
    record {
      can_next = (tt, tt);
      is_finite = tt;
      end = steps.0.0 ∙ i.end;
      left = subst (λ (n : ℕ). AreLeft c.next.new.self.b.rest.items n events) more both.1;
      so_far = subst (λ (n : ℕ). SoFar c.push.new.self.items events n) more
          (subst (λ (runs : List Run). SoFar runs events (start + 1)) (sym c.in-Ok.ensures.items)
          (one_run_more c.loop-place.runs.items events start run i.so_far stream (both.0.named.0 c.if-seen.true) told));
    }

pub loop-place-preserved : goal.loop-place-preserved
loop-place-preserved c =
    let i = c.loop-place.invariant in
    let steps = c.in-Some.ensures.steps in
    let start = c.loop-place.place-iterator.a.start in
    let next = c.next.new.self.a.start in
    let events = c.args.events.now in
    let more : start + 1 ≡ next = omega (arith, steps.0) in
    let both = next_left c.in-Some.seen c.next.new.self.b.rest.items start events (subst (λ (rest : List Seen). AreLeft rest start events) steps.1.0 i.left) in
    record {
      can_next = (tt, tt);
      is_finite = tt;
      end = steps.0.0 ∙ i.end;
      left = subst (λ (n : ℕ). AreLeft c.next.new.self.b.rest.items n events) more both.1;
      so_far = subst (λ (n : ℕ). SoFar c.loop-place.runs.items events n) more
          (no_run_more c.loop-place.runs.items events start i.so_far (λ named. untrue _ c.if-seen.false (both.0.named.1 named)));
    }

pub returns-clause-resolved : goal.returns-clause-resolved
returns-clause-resolved c =
    let i = c.loop-place.invariant in
    let it = c.loop-place.place-iterator in
    let last : 256 ≤ it.a.start = elim c.in-None.ensures.steps [
      | inl first ↦ omega (arith, i.end, first.1)
      | inr second ↦ omega (arith, i.left.count, second.1, it.b.rest.ok.0)
    ] in
    all_gathered c.loop-place.runs.items c.args.events.now it.a.start i.so_far last c.requires
