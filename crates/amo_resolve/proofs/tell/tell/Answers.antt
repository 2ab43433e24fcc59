use Rattle.std.proofs.Common.{List, Option, Some, None, Vec, Global, ◌∷◌, get_or, reverse, ◌≡◌, ◌+◌, ◌<◌, ℕ, true, false, length, take, drop, refl, sym, ◌∙◌, ap, subst, arith}
use Rattle.amo_object.specs.Queue.{QueueState}
use Rattle.amo_object.specs.declared.step.Step.{Step}
use Rattle.amo_resolve.specs.declared.draft.Draft.{Draft}
use Rattle.amo_resolve.specs.declared.plan.Note.{Note}
use Rattle.amo_resolve.specs.declared.replica.Replica.{Replica}
use Rattle.amo_resolve.specs.declared.tell.Told.{Told}
use Rattle.amo_resolve.specs.Explanation.{IsExplained}
use Rattle.amo_resolve.specs.Plan.{GoesOn, noted_down}
use Rattle.amo_resolve.specs.Telling.{known_of, state_of}
use Rattle.amo_resolve.proofs.Following.{Ready, ready_start}
use Rattle.amo_resolve.proofs.Runs.{call_told, serves_start}
use Rattle.amo_resolve.proofs.Telling.{IsSoFar, IsTold, Next, note_of, note_is, kept_next, kept_passed, told_all, next_call, got_next, can_lose, ready_lost, ready_kept, bound_start}
use Rattle.amo_resolve.proofs.tell.tell.Goals as goal
use Rattle.amo_resolve.proofs.tell.tell.Goals.{then-is_any_down+in-Some+in_ok-lose_to+else-not-branch-2, else-is_any_down}

pub loop-place-init : goal.loop-place-init
loop-place-init c =
    let got = c.args.got.now in
    let p = c.requires.plan in
    record {
      notes = p.notes;
      counted = p.marked.1;
      so_far = record {
        leads = c.new-told.ensures.leads got;
        within = λ some. absurd (omega (arith, some, c.new-told.ensures.parts.1));
        later = ap (λ (n : ℕ). drop n got) c.new-told.ensures.parts.0 ∙ c.requires.got;
        ready = λ explained. (
          subst (λ (q : QueueState). Ready q c.args.calls.now p.notes) (sym (c.new-told.ensures.start got))
              (ready_start c.args.calls.now p.notes p.marked.0 p.plan (serves_start c.args.calls.now explained)),
          bound_start got c.new-told.result.queue (GoesOn c.args.calls.now p.notes) c.new-told.ensures.parts.1,
        );
      };
      kept = λ explained. p.kept;
    }

-- what holds of the call, where the calls are explained
abbrev Upcoming : (got : List (List ℕ)) (calls : List Step) (notes : List Note) (old new : Replica) (call : Step) (place : ℕ) → Type 0
Upcoming got calls notes old new call place =
    Next (state_of got old) (state_of got new) (drop (place + 1) calls) (drop (place + 1) notes) (known_of got old) old.others call (note_of notes place)

upcoming : (got : List (List ℕ)) (calls : List Step) (draft : Draft) (old new : Replica) (those : List Note) (call : Step) (place : ℕ) → place < length calls
    → call ≡ get_or calls place call → (t : IsTold calls got draft old those place) → IsExplained calls → Upcoming got calls t.notes old new call place
upcoming got calls draft old new those call place within here t explained =
    next_call (state_of got old) (state_of got new) calls t.notes (known_of got old) old.others place call (note_of t.notes place) within t.counted
    here (note_is t.notes place (omega (arith, within, t.counted))) refl (t.so_far.ready explained)

pub push_call-requires-clause-known : goal.push_call-requires-clause-known
push_call-requires-clause-known c = λ known.
    let within : c.loop-place.place < length c.args.calls.now = omega arith in
    let n = upcoming c.args.got.now c.args.calls.now c.loop-place.told.draft c.loop-place.told.queue c.loop-place.told.queue c.loop-place.later.items
    c.index-calls-place.result c.loop-place.place within c.index-calls-place.is c.loop-place.invariant (c.requires.known known) in
    (n.allowed, n.seen)

pub returns-then-not-branch-clause-none : goal.returns-then-not-branch-clause-none
returns-then-not-branch-clause-none c = λ explained.
    let within : c.loop-place.place < length c.args.calls.now = omega arith in
    let n = upcoming c.args.got.now c.args.calls.now c.loop-place.told.draft c.loop-place.told.queue c.push_call.new.self.queue c.loop-place.later.items
    c.index-calls-place.result c.loop-place.place within c.index-calls-place.is c.loop-place.invariant explained in
    c.in_ok-push_call.ensures.refused c.if-not-branch.true n.allowed n.seen

-- the note that is taken is that of the call
taken : (notes those after : List Note) (result : Option Note) (place : ℕ) → place < length notes → (note_of notes place).is_down ≡ true
    → ((note : Note) (rest : List Note) → note.is_down ≡ true → reverse those ≡ noted_down (note ∷ rest) → (result ≡ Some note) × (reverse after ≡ noted_down rest))
    → reverse those ≡ noted_down (drop place notes) → (result ≡ Some (note_of notes place)) × (reverse after ≡ noted_down (drop (place + 1) notes))
taken notes those after result place within down take kept = take (note_of notes place) (drop (place + 1) notes) down (kept_next notes those place within kept)

same_note : (result : Option Note) (note other : Note) → result ≡ Some note → result ≡ Some other → other ≡ note
same_note result note other is also = cc

none_taken : (result : Option Note) (note : Note) → result ≡ Some note → result ≡ None → ⊥
none_taken result note is none = cc

pub returns-in_default-clause-none : goal.returns-in_default-clause-none
returns-in_default-clause-none c = λ explained.
    let t = c.loop-place.invariant in
    let place = c.loop-place.place in
    let within : place < length c.args.calls.now = omega arith in
    let n = upcoming c.args.got.now c.args.calls.now c.loop-place.told.draft c.loop-place.told.queue c.push_call.new.self.queue c.loop-place.later.items
    c.index-calls-place.result place within c.index-calls-place.is t explained in
    let pushed = c.in_ok-push_call.ensures.pushed c.if-not-branch.false in
    let down = n.down pushed.reached ∙ sym c.is_any_down.ensures ∙ c.if-is_any_down.true in
    let both = taken t.notes c.loop-place.later.items c.next_note.new.kept.items c.next_note.result place (omega (arith, within, t.counted)) down c.next_note.ensures (t.kept explained) in
    none_taken c.next_note.result (note_of t.notes place) both.0 c.in_default.is

pub returns-then-not-branch-2-clause-none : goal.returns-then-not-branch-2-clause-none
returns-then-not-branch-2-clause-none c = λ explained.
    let got = c.args.got.now in
    let calls = c.args.calls.now in
    let t = c.loop-place.invariant in
    let place = c.loop-place.place in
    let old = c.loop-place.told.queue in
    let new = c.push_call.new.self.queue in
    let call = c.index-calls-place.result in
    let note = c.in-Some.note in
    let within : place < length calls = omega arith in
    let up = upcoming got calls c.loop-place.told.draft old new c.loop-place.later.items call place within c.index-calls-place.is t explained in
    let pushed = c.in_ok-push_call.ensures.pushed c.if-not-branch.false in
    let below = up.down pushed.reached ∙ sym c.is_any_down.ensures ∙ c.if-is_any_down.true in
    let both = taken t.notes c.loop-place.later.items c.next_note.new.kept.items c.next_note.result place (omega (arith, within, t.counted)) below c.next_note.ensures (t.kept explained) in
    let same : note ≡ note_of t.notes place = same_note c.next_note.result (note_of t.notes place) note both.0 c.in-Some.is in
    let n = subst (λ (it : Note). Next (state_of got old) (state_of got new) (drop (place + 1) calls) (drop (place + 1) t.notes) (known_of got old) old.others call it) (sym same) up in
    let down : note.is_down ≡ true = n.down pushed.reached ∙ sym c.is_any_down.ensures ∙ c.if-is_any_down.true in
    let later = got_next got calls old.first new.first place call within c.index-calls-place.is (c.in_ok-push_call.ensures.later c.if-not-branch.false) t.so_far.later in
    let lost = can_lose (state_of got new) _ _ note got (known_of got new) new.others new.first down later (n.called pushed.reached)
    (n.bound (known_of got new) new.others (c.in_ok-push_call.ensures.moved c.if-not-branch.false)) in
    c.in_ok-lose_to.ensures.refused c.if-not-branch-2.true _ lost.0 lost.1

pub loop-place-preserved : goal.loop-place-preserved
loop-place-preserved c =
    let got = c.args.got.now in
    let place = c.loop-place.place in
    let calls = c.args.calls.now in
    let t = c.loop-place.invariant in
    let notes = t.notes in
    let old = c.loop-place.told.queue in
    let new = c.push_call.new.self.queue in
    let call = c.index-calls-place.result in
    let within : place < length calls = omega arith in
    let inside : place < length notes = omega (arith, within, t.counted) in
    let pushed = c.in_ok-push_call.ensures.pushed c.if-not-branch.false in
    let leads = call_told _ _ calls place _ _ call within c.index-calls-place.is (c.in_ok-push_call.ensures.seen c.if-not-branch.false) pushed t.so_far.leads in
    let later = got_next got calls old.first new.first place call within c.index-calls-place.is (c.in_ok-push_call.ensures.later c.if-not-branch.false) t.so_far.later in
    let next : IsExplained calls → Upcoming got calls notes old new call place =
    λ explained. upcoming got calls c.loop-place.told.draft old new c.loop-place.later.items call place within c.index-calls-place.is t explained in
    let moved = c.in_ok-push_call.ensures.moved c.if-not-branch.false in
    elim c.if-is_any_down.branch [
      | then-is_any_down+in-Some+in_ok-lose_to+else-not-branch-2 w ↦ (
          let lost = w.in_ok-lose_to.ensures.lost w.if-not-branch-2.false in
          let settled = w.in_ok-lose_to.ensures.settled w.if-not-branch-2.false in
          let parts = w.in_ok-lose_to.ensures.parts w.if-not-branch-2.false in
          let end = w.lose_to.new.self.queue in
          let note = w.in-Some.note in
          let below : IsExplained calls → (note_of notes place).is_down ≡ true = λ explained. (next explained).down pushed.reached ∙ sym c.is_any_down.ensures ∙ w.if-is_any_down.true in
          let both : IsExplained calls → (w.next_note.result ≡ Some (note_of notes place)) × (reverse w.next_note.new.kept.items ≡ noted_down (drop (place + 1) notes)) =
          λ explained. taken notes c.loop-place.later.items w.next_note.new.kept.items w.next_note.result place inside (below explained) w.next_note.ensures (t.kept explained) in
          let so_far : IsSoFar calls notes got w.lose_to.new.self.draft end (place + 1) = record {
            leads = lost (take (place + 1) calls) leads;
            within = w.in_ok-lose_to.ensures.within w.if-not-branch-2.false;
            later = ap (λ (n : ℕ). drop n got) parts.2 ∙ later;
            ready = λ explained.
                let same : note ≡ note_of notes place = same_note w.next_note.result (note_of notes place) note (both explained).0 w.in-Some.is in
                let n = subst (λ (it : Note). Next (state_of got old) (state_of got new) (drop (place + 1) calls) (drop (place + 1) notes) (known_of got old) old.others call it) (sym same) (next explained) in
                let down : note.is_down ≡ true = n.down pushed.reached ∙ sym c.is_any_down.ensures ∙ w.if-is_any_down.true in
                ready_lost (state_of got new) (state_of got end) (drop (place + 1) calls) (drop (place + 1) notes) note got (known_of got end) end.others new.first
                down later (n.called pushed.reached) settled parts.0 parts.1;
          } in
          subst (λ (told : Told). IsTold calls got told.draft told.queue c.if-is_any_down.later.items (place + 1)) (sym w.told-is)
          (subst (λ (kept : Vec Note Global). IsTold calls got w.lose_to.new.self.draft end kept.items (place + 1)) (sym w.later-is)
          (record { notes = notes; counted = t.counted; so_far = so_far; kept = λ explained. (both explained).1 })))
      | else-is_any_down w ↦ (
          let so_far : IsSoFar calls notes got c.push_call.new.self.draft new (place + 1) = record {
            leads = leads;
            within = c.in_ok-push_call.ensures.within c.if-not-branch.false;
            later = later;
            ready = λ explained.
                let n = next explained in
                let up : (note_of notes place).is_down ≡ false = n.down pushed.reached ∙ sym c.is_any_down.ensures ∙ w.if-is_any_down.false in
                ready_kept (state_of got new) (drop (place + 1) calls) (drop (place + 1) notes) (note_of notes place) (known_of got new) new.others
                up (n.called pushed.reached) (n.bound (known_of got new) new.others moved);
          } in
          subst (λ (told : Told). IsTold calls got told.draft told.queue c.if-is_any_down.later.items (place + 1)) (sym w.told-is)
          (subst (λ (kept : Vec Note Global). IsTold calls got c.push_call.new.self.draft new kept.items (place + 1)) (sym w.later-is)
          (record {
            notes = notes;
            counted = t.counted;
            so_far = so_far;
            kept = λ explained.
                let up : (note_of notes place).is_down ≡ false = (next explained).down pushed.reached ∙ sym c.is_any_down.ensures ∙ w.if-is_any_down.false in
                kept_passed (drop (place + 1) notes) c.loop-place.later.items (note_of notes place) up (kept_next notes c.loop-place.later.items place inside (t.kept explained));
          })))
    ]

pub returns-clause-explains : goal.returns-clause-explains
returns-clause-explains c = told_all c.args.calls.now c.args.got.now c.loop-place.told.draft c.loop-place.told.queue c.loop-place.later.items c.loop-place.place
    (omega arith) c.loop-place.invariant
