-- Runs that are exchanged for others of the same calls.
use Rattle.std.proofs.Common.{◌≡◌, ℕ, ◌+◌, ◌≤◌, ◌<◌, true, false, eqb, List, [], ◌∷◌, ◌++◌, length, take, drop, set, get_or, reverse, refl, sym, ◌∙◌, ap, subst, inl, inr, ◌⊎◌, arith, length-append}
use Rattle.std.specs.List.{All}
use Rattle.std.proofs.Math.Seq.{take-append_seam}
use Rattle.std.proofs.lemmas.Bool.Decides.{eqb_tells}
use Rattle.std.proofs.lemmas.Grind.{get_or-set_at}
use Rattle.std.proofs.lemmas.List.{append-nil, length-set, take-append-drop, take_all, take_more}
use Rattle.std.proofs.lemmas.List.Elements.{All-cons, All-head, All-nil, All-set, All-tail, filter-append}
use Rattle.std.proofs.lemmas.Option.{get_or_from_slice_get, slice_get-get_or, slice_get_read}
use Rattle.std.proofs.Common.{get_or-set_other}
use Rattle.amo_object.specs.declared.step.Step.{Step}
use Rattle.amo_object.specs.declared.step.Step.TheVariants as step
use Rattle.amo_object.specs.Queue.{start}
use Rattle.amo_object.specs.Run.{IsRun, is_loss, is_visible, without_losses}
use Rattle.amo_object.proofs.Runs.{IsRunFrom-split}
use Rattle.amo_world.specs.declared.event.Event.{Event}
use Rattle.amo_world.specs.Stream.{IsStream}
use Rattle.amo_world.specs.Served.{calls}
use Rattle.amo_resolve.specs.declared.resolver.Run.{Run}
use Rattle.amo_resolve.specs.Explanation.{Explains}
use Rattle.amo_resolve.specs.Resolved.{HasRun, IsResolved}
use Rattle.amo_audit.specs.Explanation.{ExplainsAsWell}
use Rattle.amo_audit.specs.Merge.{Interleaves}

-- the calls of steps are those of a front of them, and those of the rest
parts : (steps : List Step) (k : ℕ) → without_losses steps ≡ without_losses (take k steps) ++ without_losses (drop k steps)
parts steps k = ap without_losses (sym (take-append-drop k steps)) ∙ filter-append is_visible (take k steps) (drop k steps)

-- a front with so many calls has the first ones
pub front_calls : (steps : List Step) (k many : ℕ) → many ≡ length (without_losses (take k steps)) → without_losses (take k steps) ≡ take many (without_losses steps)
front_calls steps k many long =
    sym (ap (take many) (parts steps k)
    ∙ ap (λ n. take n (without_losses (take k steps) ++ without_losses (drop k steps))) long
    ∙ take-append_seam (without_losses (take k steps)) (without_losses (drop k steps)))

pub all_calls : (steps : List Step) (k many : ℕ) → length steps ≤ k → length (without_losses (take k steps)) ≤ many → without_losses steps ≡ take many (without_losses steps)
all_calls steps k many whole few =
    let all = ap (λ (xs : List Step). length (without_losses xs)) (take_all k steps whole) in
    sym (take_all many (without_losses steps) (omega (arith, few, all)))

-- one step more
more_calls : (steps : List Step) (k : ℕ) (s : Step) → k < length steps → s ≡ get_or steps k s → without_losses (take (k + 1) steps) ≡ without_losses (take k steps) ++ without_losses (s ∷ [])
more_calls steps k s within is =
    ap without_losses (take_more steps k s within ∙ ap (λ (x : Step). take k steps ++ x ∷ []) (sym is)) ∙ filter-append is_visible (take k steps) (s ∷ [])

visible_alone : (s : Step) → is_loss s ≡ false → without_losses (s ∷ []) ≡ s ∷ []
visible_alone (step.Lose place) is = absurd cc
visible_alone step.LoseAck is = absurd cc
visible_alone s is = refl

loss_alone : (s : Step) → is_loss s ≡ true → without_losses (s ∷ []) ≡ []
loss_alone (step.Lose place) is = refl
loss_alone step.LoseAck is = refl
loss_alone s is = absurd cc

pub call_more : (steps : List Step) (k : ℕ) (s : Step) → k < length steps → s ≡ get_or steps k s → is_loss s ≡ false → without_losses (take (k + 1) steps) ≡ without_losses (take k steps) ++ s ∷ []
call_more steps k s within is visible = more_calls steps k s within is ∙ ap (λ (xs : List Step). without_losses (take k steps) ++ xs) (visible_alone s visible)

pub loss_more : (steps : List Step) (k : ℕ) (s : Step) → k < length steps → s ≡ get_or steps k s → is_loss s ≡ true → without_losses (take (k + 1) steps) ≡ without_losses (take k steps)
loss_more steps k s within is loss = more_calls steps k s within is ∙ ap (λ (xs : List Step). without_losses (take k steps) ++ xs) (loss_alone s loss) ∙ append-nil (without_losses (take k steps))

pub one_seen_more : (steps : List Step) (k seen : ℕ) (s : Step) → k < length steps → s ≡ get_or steps k s → is_loss s ≡ false → seen ≡ length (without_losses (take k steps))
    → seen + 1 ≡ length (without_losses (take (k + 1) steps))
one_seen_more steps k seen s within is visible so_far =
    let more = ap length (call_more steps k s within is visible) in
    let long = length-append (without_losses (take k steps)) (s ∷ []) in
    omega (arith, more, long, so_far)

-- the front of a run that explains calls and others behind them explains the calls
pub front_explains : (old steps front all : List Step) (more : List Step) (many end : ℕ) → many ≡ length (without_losses old) → all ≡ without_losses old ++ more → Explains steps all
    → front ≡ take end steps → without_losses front ≡ take many (without_losses steps) → ExplainsAsWell old front
front_explains old steps front all more many end long behind explains is seen wanted told = record {
  is_run = subst IsRun (sym is) (IsRunFrom-split start (take end steps) (drop end steps) (subst IsRun (sym (take-append-drop end steps)) explains.is_run)).0;
  seen = seen ∙ ap (take many) (explains.seen ∙ behind) ∙ ap (λ n. take n (without_losses old ++ more)) long ∙ take-append_seam (without_losses old) more ∙ told.seen;
}

-- one run of a stream is exchanged for another
module _ (runs : List Run) (events : List Event) (place : ℕ) (old new : Run) (within : place < length runs) (at : old ≡ get_or runs place old) (stream : new.stream ≡ old.stream)
    (well : ExplainsAsWell old.steps.items new.steps.items) (resolved : IsResolved runs events) where
  there : (d : Run) → get_or runs place d ≡ old
  there d = get_or_from_slice_get runs place old d (slice_get_read runs (length runs) place old refl within at)

  streams : (i : ℕ) (d : Run) → i < length runs → (get_or (set runs place new) i d).stream ≡ (get_or runs i d).stream
  streams i d short = by (eqb_tells i place)
    where
      by : ((eqb i place ≡ true) × (i ≡ place)) ⊎ ((eqb i place ≡ false) × (i ≡ place → ⊥)) → (get_or (set runs place new) i d).stream ≡ (get_or runs i d).stream
      by (inl (t, same)) = ap (λ (r : Run). r.stream) (get_or-set_at runs place i new d same within) ∙ stream ∙ sym (ap (λ (r : Run). r.stream) (ap (λ k. get_or runs k d) same ∙ there d))
      by (inr (f, apart)) = ap (λ (r : Run). r.stream) (get_or-set_other runs place i new d apart)

  long : length (set runs place new) ≡ length runs
  long = length-set runs place new

  named_before : (number : ℕ) → HasRun number (set runs place new) → HasRun number runs
  named_before number (r, (k, short, is), same) =
      let inside : k < length runs = omega (arith, short, long) in
      let here = get_or runs k r in
      (here, (k, inside, again k r inside), sym (streams k r inside) ∙ ap (λ (x : Run). x.stream) is ∙ same)
    where
      again : (k : ℕ) (d : Run) → k < length runs → get_or runs k (get_or runs k d) ≡ get_or runs k d
      again k d inside = get_or_from_slice_get runs k (get_or runs k d) (get_or runs k d) (slice_get-get_or runs k d inside)

  named_after : (number : ℕ) → HasRun number runs → HasRun number (set runs place new)
  named_after number (r, (k, short, is), same) =
      let inside : k < length (set runs place new) = omega (arith, short, long) in
      let here = get_or (set runs place new) k r in
      (here, (k, inside, again k r inside), streams k r short ∙ ap (λ (x : Run). x.stream) is ∙ same)
    where
      again : (k : ℕ) (d : Run) → k < length (set runs place new) → get_or (set runs place new) k (get_or (set runs place new) k d) ≡ get_or (set runs place new) k d
      again k d inside = get_or_from_slice_get (set runs place new) k (get_or (set runs place new) k d) (get_or (set runs place new) k d) (slice_get-get_or (set runs place new) k d inside)

  pub exchanged : IsResolved (set runs place new) events
  exchanged = record {
    rising = λ i j d less short.
        let inside : j < length runs = omega (arith, short, long) in
        let below : i < length runs = omega (arith, inside, less) in
        rw (streams i d below, streams j d inside) (resolved.rising i j d less inside);
    named = λ number. ((λ has. (resolved.named number).0 (named_before number has)), λ is. named_after number ((resolved.named number).1 is));
    explained = All-set (λ (r : Run). Explains r.steps.items (calls r.stream (reverse events))) runs place new
        (well (calls new.stream (reverse events))
        (subst (λ (n : ℕ). Explains old.steps.items (calls n (reverse events))) (sym stream)
        (subst (λ (r : Run). Explains r.steps.items (calls r.stream (reverse events))) (there old) (resolved.explained place old within))))
        resolved.explained;
  }

-- the run at a place is exchanged, read once and then again
pub exchanged_there : (runs : List Run) (events : List Event) (place : ℕ) (old again new : Run) → place < length runs → old ≡ get_or runs place old → again ≡ get_or runs place again
    → new.stream ≡ again.stream → ExplainsAsWell old.steps.items new.steps.items → IsResolved runs events → IsResolved (set runs place new) events
exchanged_there runs events place old again new within at at' stream well resolved =
    let same : again ≡ old = at' ∙ get_or_from_slice_get runs place old again (slice_get_read runs (length runs) place old refl within at) in
    exchanged runs events place old new within at (stream ∙ ap (λ (r : Run). r.stream) same) well resolved

-- the events of an interleaving are of streams that there are
pub merged_streams : (x y merged : List Event) → All (λ e. IsStream e.stream) x → All (λ e. IsStream e.stream) y → Interleaves x y merged → All (λ e. IsStream e.stream) merged
merged_streams x y [] p q inter = All-nil (λ (event : Event). IsStream event.stream)
merged_streams x y (e ∷ merged) p q (inl (rest, is, more)) =
    let of = subst (All (λ (event : Event). IsStream event.stream)) is p in
    All-cons (λ (event : Event). IsStream event.stream) e merged (All-head (λ (event : Event). IsStream event.stream) e rest of)
    (merged_streams rest y merged (All-tail (λ (event : Event). IsStream event.stream) e rest of) q more)
merged_streams x y (e ∷ merged) p q (inr (rest, is, more)) =
    let of = subst (All (λ (event : Event). IsStream event.stream)) is q in
    All-cons (λ (event : Event). IsStream event.stream) e merged (All-head (λ (event : Event). IsStream event.stream) e rest of)
    (merged_streams x rest merged p (All-tail (λ (event : Event). IsStream event.stream) e rest of) more)
