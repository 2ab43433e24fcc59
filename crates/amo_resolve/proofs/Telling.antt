-- The calls of a list, told one after another.
use Rattle.std.proofs.Common.{◌≡◌, ℕ, ◌+◌, ◌-◌, ◌<◌, ◌≤◌, Bool, true, false, List, [], ◌∷◌, ◌++◌, length, take, drop, reverse, get_or, if◌then◌else◌, refl, sym, ◌∙◌, ap, subst, inl, inr, append_assoc, arith}
use Rattle.std.proofs.lemmas.List.{drop_more, append-nil, length-append, length-take, take_all, get_or_default}
use Rattle.amo_object.specs.declared.step.Step.{Step}
use Rattle.amo_object.specs.declared.step.Step.TheVariants.{Put, Get, Ack, Crash, Recover, DownReply, Lose, LoseAck}
use Rattle.amo_object.specs.Queue.{QueueState, Allows, after, is_any_down}
use Rattle.amo_object.specs.Run.{is_loss}
use Rattle.amo_object.specs.Delivery.{messages_got}
use Rattle.amo_resolve.specs.declared.draft.Draft.{Draft}
use Rattle.amo_resolve.specs.declared.plan.Note.{Note}
use Rattle.amo_resolve.specs.declared.replica.Replica.{Replica}
use Rattle.amo_resolve.specs.Explanation.{IsExplained}
use Rattle.amo_resolve.specs.Plan.{Leaves, is_told_yes, wanted_of, Choose, GoesOn, GoesAfter, noted_down}
use Rattle.amo_resolve.specs.Telling.{Settles, Moves, IsNeeded, known_of, state_of}
use Rattle.amo_resolve.specs.Weaving.{LeadsTo, IsDraft}
use Rattle.amo_resolve.proofs.Following.{Ready, Called, called, can_leave, ready_down, ready_up}
use Rattle.amo_resolve.proofs.Serving.{marks_after}
use Rattle.amo_resolve.proofs.Subsequences.{leaves-part, length-subsequence}

-- with fewer messages than are known the calls do not go on
abbrev pub IsBound : List (List ℕ) → List (List ℕ) → (List (List ℕ) → Type 0) → Type 0
IsBound known others P = (fewer : List (List ℕ)) → P (fewer ++ others) → length known ≤ length fewer

-- at first none are known
pub bound_start : (got : List (List ℕ)) (r : Replica) (P : List (List ℕ) → Type 0) → r.known ≡ 0 → IsBound (known_of got r) r.others P
bound_start got r P none fewer goes = omega (arith, none, length-take (r.known - r.first) (drop r.first got))

-- the calls before a place are told, and if some run has all of them the others can be
pub record IsSoFar (calls : List Step) (notes : List Note) (got : List (List ℕ)) (draft : Draft) (replica : Replica) (place : ℕ) : Type 0 where
  pub leads : LeadsTo draft (take place calls) (state_of got replica)
  pub within : replica.first < replica.known → replica.known ≤ length got
  pub later : drop replica.first got ≡ messages_got (drop place calls)
  pub ready : IsExplained calls → Ready (state_of got replica) (drop place calls) (drop place notes)
      × IsBound (known_of got replica) replica.others (GoesOn (drop place calls) (drop place notes))

-- the same, with the notes that are kept for the other calls
pub record IsTold (calls : List Step) (got : List (List ℕ)) (draft : Draft) (replica : Replica) (those : List Note) (place : ℕ) : Type 0 where
  pub notes : List Note
  pub counted : length notes ≡ length calls
  pub so_far : IsSoFar calls notes got draft replica place
  pub kept : IsExplained calls → reverse those ≡ noted_down (drop place notes)

-- the note of a call
abbrev pub note_of : List Note → ℕ → Note
note_of notes place = get_or notes place (record { wanted = 0; is_down = false; is_told_yes = false; is_told_no = false })

pub note_is : (notes : List Note) (place : ℕ) → place < length notes → note_of notes place ≡ get_or notes place (note_of notes place)
note_is notes place within = get_or_default notes place (record { wanted = 0; is_down = false; is_told_yes = false; is_told_no = false }) (note_of notes place) within

-- the notes that are kept, and that of the next call
pub kept_next : (notes those : List Note) (place : ℕ) → place < length notes → reverse those ≡ noted_down (drop place notes)
    → reverse those ≡ noted_down (note_of notes place ∷ drop (place + 1) notes)
kept_next notes those place within is = is ∙ ap noted_down (drop_more notes place (record { wanted = 0; is_down = false; is_told_yes = false; is_told_no = false }) within)

pub kept_passed : (notes those : List Note) (note : Note) → note.is_down ≡ false → reverse those ≡ noted_down (note ∷ notes) → reverse those ≡ noted_down notes
kept_passed notes those note up is = is ∙ ap (λ (b : Bool). if b then note ∷ noted_down notes else noted_down notes) up

-- all calls are told
pub told_all : (calls : List Step) (got : List (List ℕ)) (draft : Draft) (replica : Replica) (those : List Note) (place : ℕ) → length calls ≤ place
    → IsTold calls got draft replica those place → IsDraft draft calls
told_all calls got draft replica those place end t =
    let leads : LeadsTo draft calls (state_of got replica) = subst (λ (steps : List Step). LeadsTo draft steps (state_of got replica)) (take_all place calls end) t.so_far.leads in
    record { explains = record { is_run = leads.is_run; seen = leads.seen }; counted = leads.counted }

-- what holds of the next call, where the calls are ready
pub record Next (q next : QueueState) (calls : List Step) (notes : List Note) (known others : List (List ℕ)) (call : Step) (note : Note) : Type 0 where
  pub allowed : Allows q call
  pub seen : is_loss call ≡ false
  pub down : next ≡ after q call → note.is_down ≡ is_any_down next
  pub called : next ≡ after q call → Called next calls notes note
  pub bound : (known_after others_after : List (List ℕ)) → Moves call known others known_after others_after → IsBound known_after others_after (GoesAfter calls notes note)

kept_bound : (known others known_after others_after : List (List ℕ)) (P : List (List ℕ) → Type 0) → IsBound known others P
    → (known_after ≡ known) × (others_after ≡ others) → IsBound known_after others_after P
kept_bound known others known_after others_after P bound moves fewer goes =
    omega (arith, ap length moves.0, bound fewer (subst (λ (xs : List (List ℕ)). P (fewer ++ xs)) moves.1 goes))

-- a call keeps the bound
bound_after : (q : QueueState) (call : Step) (calls : List Step) (note : Note) (notes : List Note) (known others known_after others_after : List (List ℕ))
    → q.messages ≡ known ++ others → GoesOn (call ∷ calls) (note ∷ notes) q.messages → IsBound known others (GoesOn (call ∷ calls) (note ∷ notes))
    → Moves call known others known_after others_after → IsBound known_after others_after (GoesAfter calls notes note)
bound_after q (Put m) calls note notes known others known_after others_after is here bound moves fewer goes =
    let same : fewer ++ others_after ≡ (fewer ++ others) ++ m ∷ [] = ap (λ (xs : List (List ℕ)). fewer ++ xs) moves.1 ∙ sym (append_assoc fewer others (m ∷ [])) in
    omega (arith, ap length moves.0, bound fewer (subst (GoesAfter calls notes note) same goes))
bound_after q (Get m) calls note notes known others known_after others_after is here bound (inl none) fewer goes = omega (arith, ap length none.1)
bound_after q (Get m) calls note notes known others known_after others_after is here bound (inr some) fewer goes =
    omega (arith, ap length some.0, bound (m ∷ fewer) (fewer ++ others, refl, subst (λ (xs : List (List ℕ)). GoesAfter calls notes note (fewer ++ xs)) some.1 goes))
bound_after q (Ack true) calls note notes known others known_after others_after is here bound moves fewer goes =
    omega (arith, ap length moves.0, ap length (sym is ∙ here.0), length-append known others)
bound_after q (Ack false) calls note notes known others known_after others_after is here bound moves fewer goes = kept_bound known others known_after others_after (GoesAfter calls notes note) bound moves fewer goes
bound_after q (Crash side) calls note notes known others known_after others_after is here bound moves fewer goes = kept_bound known others known_after others_after (GoesAfter calls notes note) bound moves fewer goes
bound_after q (Recover side) calls note notes known others known_after others_after is here bound moves fewer goes = kept_bound known others known_after others_after (GoesAfter calls notes note) bound moves fewer goes
bound_after q (DownReply side) calls note notes known others known_after others_after is here bound moves fewer goes = kept_bound known others known_after others_after (GoesAfter calls notes note) bound moves fewer goes
bound_after q (Lose place) calls note notes known others known_after others_after is here bound moves fewer goes = kept_bound known others known_after others_after (GoesAfter calls notes note) bound moves fewer goes
bound_after q LoseAck calls note notes known others known_after others_after is here bound moves fewer goes = kept_bound known others known_after others_after (GoesAfter calls notes note) bound moves fewer goes

pub next_call : (q next : QueueState) (calls : List Step) (notes : List Note) (known others : List (List ℕ)) (place : ℕ) (call : Step) (note : Note) → place < length calls
    → length notes ≡ length calls
    → call ≡ get_or calls place call → note ≡ get_or notes place note → q.messages ≡ known ++ others
    → Ready q (drop place calls) (drop place notes) × IsBound known others (GoesOn (drop place calls) (drop place notes))
    → Next q next (drop (place + 1) calls) (drop (place + 1) notes) known others call note
next_call q next calls notes known others place call note within counted here there is both =
    let split : drop place calls ≡ call ∷ drop (place + 1) calls = drop_more calls place call within ∙ ap (λ (x : Step). x ∷ drop (place + 1) calls) (sym here) in
    let noted : drop place notes ≡ note ∷ drop (place + 1) notes = drop_more notes place note (omega (arith, within, counted)) ∙ ap (λ (x : Note). x ∷ drop (place + 1) notes) (sym there) in
    let r : Ready q (call ∷ drop (place + 1) calls) (note ∷ drop (place + 1) notes) =
    subst (λ (steps : List Step). Ready q steps (note ∷ drop (place + 1) notes)) split (subst (λ (ns : List Note). Ready q (drop place calls) ns) noted both.0) in
    let bound : IsBound known others (GoesOn (call ∷ drop (place + 1) calls) (note ∷ drop (place + 1) notes)) =
    subst (λ (steps : List Step). IsBound known others (GoesOn steps (note ∷ drop (place + 1) notes))) split (subst (λ (ns : List Note). IsBound known others (GoesOn (drop place calls) ns)) noted both.1) in
    let c = called q call (drop (place + 1) calls) note (drop (place + 1) notes) r in
    record {
      allowed = c.0;
      seen = c.1;
      down = λ is. (marks_after q call (drop (place + 1) calls) note (drop (place + 1) notes) r.tracks.marks).0 ∙ ap is_any_down (sym is);
      called = λ is. subst (λ (x : QueueState). Called x (drop (place + 1) calls) (drop (place + 1) notes) note) (sym is) c.2;
      bound = λ known_after others_after moves. bound_after q call (drop (place + 1) calls) note (drop (place + 1) notes) known others known_after others_after is r.goes_on bound moves;
    }

-- what is got from the next call on
pub got_next : (got : List (List ℕ)) (calls : List Step) (first next place : ℕ) (call : Step) → place < length calls → call ≡ get_or calls place call
    → ((later : List Step) → drop first got ≡ messages_got (call ∷ later) → drop next got ≡ messages_got later)
    → drop first got ≡ messages_got (drop place calls) → drop next got ≡ messages_got (drop (place + 1) calls)
got_next got calls first next place call within here after so_far =
    after (drop (place + 1) calls) (so_far ∙ ap messages_got (drop_more calls place call within ∙ ap (λ (x : Step). x ∷ drop (place + 1) calls) (sym here)))

-- where a side is down the wanted ones wait, and no fewer than those known would do
pub can_lose : (q : QueueState) (calls : List Step) (notes : List Note) (note : Note) (got known others : List (List ℕ)) (first : ℕ)
    → note.is_down ≡ true → drop first got ≡ messages_got calls → Called q calls notes note → IsBound known others (GoesAfter calls notes note)
    → Leaves (is_told_yes calls) (take note.wanted (drop first got)) q.messages × IsNeeded (is_told_yes calls) (take note.wanted (drop first got)) known others
can_lose q calls notes note got known others first down is c bound = (
  subst (λ (xs : List (List ℕ)). Leaves (is_told_yes calls) (take note.wanted xs) q.messages) (sym is) (can_leave q calls notes note down c),
  λ fewer leaves. bound fewer (chosen note.is_down (Leaves (is_told_yes calls) (wanted_of calls note) (fewer ++ others)) (GoesOn calls notes (fewer ++ others)) down
      (subst (λ (xs : List (List ℕ)). Leaves (is_told_yes calls) (take note.wanted xs) (fewer ++ others)) is leaves)),
)
  where
    chosen : (first : Bool) (A B : Type 0) → first ≡ true → A → Choose first A B
    chosen true A B is one = one
    chosen false A B is one = absurd cc

-- and once all others are lost the calls are ready again
pub ready_lost : (q lost : QueueState) (calls : List Step) (notes : List Note) (note : Note) (got known others : List (List ℕ)) (first : ℕ)
    → note.is_down ≡ true → drop first got ≡ messages_got calls
    → Called q calls notes note → Settles q lost (take note.wanted (drop first got)) note.is_told_no
    → (known ≡ take note.wanted (drop first got)) → others ≡ [] → Ready lost calls notes × IsBound known others (GoesOn calls notes)
ready_lost q lost calls notes note got known others first down is c s kept none = (
  ready_down q lost calls notes note down c (subst (λ (xs : List (List ℕ)). Settles q lost (take note.wanted xs) note.is_told_no) is s),
  λ fewer goes.
      let same : fewer ++ others ≡ fewer = ap (λ (xs : List (List ℕ)). fewer ++ xs) none ∙ append-nil fewer in
      let least = c.noted.0 down fewer (subst (GoesOn calls notes) same goes) in
      omega (arith, ap length (kept ∙ ap (λ (xs : List (List ℕ)). take note.wanted xs) is), length-subsequence (leaves-part (is_told_yes calls) (wanted_of calls note) fewer least.1)),
)

-- where no side is down nothing is lost
pub ready_kept : (q : QueueState) (calls : List Step) (notes : List Note) (note : Note) (known others : List (List ℕ)) → note.is_down ≡ false
    → Called q calls notes note → IsBound known others (GoesAfter calls notes note) → Ready q calls notes × IsBound known others (GoesOn calls notes)
ready_kept q calls notes note known others up c bound = (
  ready_up q calls notes note up c,
  λ fewer goes. bound fewer (chosen note.is_down (Leaves (is_told_yes calls) (wanted_of calls note) (fewer ++ others)) (GoesOn calls notes (fewer ++ others)) up goes),
)
  where
    chosen : (first : Bool) (A B : Type 0) → first ≡ false → B → Choose first A B
    chosen true A B is one = absurd cc
    chosen false A B is one = one
