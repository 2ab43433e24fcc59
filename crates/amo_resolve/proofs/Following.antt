-- A queue that follows a plan takes each call, if some run has the calls.
use Rattle.std.proofs.Common.{◌≡◌, ℕ, ◌+◌, ◌==◌, ◌||◌, Bool, true, false, if◌then◌else◌, List, [], ◌∷◌, length, slice_get, remove, refl, sym, ◌∙◌, ap, subst}
use Rattle.amo_object.specs.declared.step.End.TheVariants.{Sender, Receiver}
use Rattle.amo_object.specs.declared.status.Status.{Status}
use Rattle.amo_object.specs.declared.status.Status.TheVariants.{Yes, No, Open}
use Rattle.amo_object.specs.declared.step.Step.{Step}
use Rattle.amo_object.specs.declared.step.Step.TheVariants.{Put, Get, Ack, Crash, Recover, DownReply, Lose, LoseAck}
use Rattle.amo_object.specs.Queue.{QueueState, start, Allows, after, settled}
use Rattle.amo_object.specs.Run.{is_loss}
use Rattle.amo_resolve.specs.declared.plan.Note.{Note}
use Rattle.amo_resolve.specs.Plan.{last, Leaves, is_told_yes, is_told_no, Takes, Choose, wanted_of, GoesOn, IsNoted, IsPlan, MarksDown, sender_after, receiver_after}
use Rattle.amo_resolve.specs.Telling.{Agrees, IsSound, Settles}
use Rattle.amo_resolve.proofs.Falls.{sound_after, Serves, first_call}
use Rattle.amo_resolve.proofs.Serving.{Marks, marks_after, sender-after, receiver-after, settled_got, not_lost, lost_before, if_neither, serves_goes_on}

-- a queue, and another one from which some run has the calls; the first goes on as planned, with the status that the calls ask
pub record Tracks (q : QueueState) (calls : List Step) (notes : List Note) : Type 0 where
  pub real : QueueState
  pub sender : real.sender_down ≡ q.sender_down
  pub receiver : real.receiver_down ≡ q.receiver_down
  pub real_sound : IsSound real
  pub serves : Serves real calls
  pub sound : IsSound q
  pub marks : Marks q calls notes
  pub plan : IsPlan calls notes
  pub told_yes : is_told_yes calls ≡ true → q.status ≡ No → ⊥

-- before a call
pub record Ready (q : QueueState) (calls : List Step) (notes : List Note) : Type 0 where
  pub tracks : Tracks q calls notes
  pub told_no : is_told_no calls notes ≡ true → q.status ≡ No
  pub goes_on : GoesOn calls notes q.messages

-- after a call, and before losses
pub record Called (q : QueueState) (calls : List Step) (notes : List Note) (note : Note) : Type 0 where
  pub tracks : Tracks q calls notes
  pub noted : IsNoted calls notes note
  pub told_no : note.is_down ≡ false → is_told_no calls notes ≡ true → q.status ≡ No
  pub goes_on : Choose note.is_down (Leaves (is_told_yes calls) (wanted_of calls note) q.messages) (GoesOn calls notes q.messages)

-- calls that some run has, at the start
pub ready_start : (calls : List Step) (notes : List Note) → MarksDown false false calls notes → IsPlan calls notes → Serves start calls
    → Ready start calls notes
ready_start calls notes marks plan serves =
    let g = serves_goes_on calls notes start refl marks plan serves in
    record {
      tracks = record {
        real = start;
        sender = refl;
        receiver = refl;
        real_sound = refl;
        serves = serves;
        sound = refl;
        marks = marks;
        plan = plan;
        told_yes = λ told gone. not_lost calls start refl told serves gone;
      };
      told_no = λ told. lost_before calls notes start refl refl marks told serves;
      goes_on = subst (λ (x : QueueState). GoesOn calls notes x.messages) (g.falls.up refl) g.goes_on;
    }

-- the queue takes the call too
is_allowed : (q x : QueueState) (call : Step) (calls : List Step) (note : Note) (notes : List Note) (P : List (List ℕ) → Type 0)
    → x.sender_down ≡ q.sender_down → x.receiver_down ≡ q.receiver_down
    → IsSound q → (is_told_yes (call ∷ calls) ≡ true → q.status ≡ No → ⊥) → (is_told_no (call ∷ calls) (note ∷ notes) ≡ true → q.status ≡ No)
    → Takes call q.messages P → is_loss call ≡ false → Allows x call → Allows q call
is_allowed q x (Put m) calls note notes P sender receiver sound when_yes when_no goes seen allowed = sym sender ∙ allowed
is_allowed q x (Get m) calls note notes P sender receiver sound when_yes when_no goes seen allowed = (sym receiver ∙ allowed.0, ap (λ (messages : List (List ℕ)). slice_get messages 0) goes.1)
is_allowed q x (Ack true) calls note notes P sender receiver sound when_yes when_no goes seen allowed = (sym sender ∙ allowed.0, by q.status refl)
  where
    by : (status : Status) → q.status ≡ status → q.status ≡ Yes
    by Yes is = is
    by No is = absurd (when_yes refl is)
    by Open is = absurd (subst (λ (s : Status). Agrees q.messages s) is sound goes.0)
is_allowed q x (Ack false) calls note notes P sender receiver sound when_yes when_no goes seen allowed = (sym sender ∙ allowed.0, when_no refl)
is_allowed q x (Crash side) calls note notes P sender receiver sound when_yes when_no goes seen allowed = tt
is_allowed q x (Recover side) calls note notes P sender receiver sound when_yes when_no goes seen allowed = tt
is_allowed q x (DownReply Sender) calls note notes P sender receiver sound when_yes when_no goes seen allowed = sym sender ∙ allowed
is_allowed q x (DownReply Receiver) calls note notes P sender receiver sound when_yes when_no goes seen allowed = sym receiver ∙ allowed
is_allowed q x (Lose place) calls note notes P sender receiver sound when_yes when_no goes seen allowed = absurd cc
is_allowed q x LoseAck calls note notes P sender receiver sound when_yes when_no goes seen allowed = absurd cc

-- and its messages go on
goes_after : (q : QueueState) (call : Step) (P : List (List ℕ) → Type 0) → is_loss call ≡ false → Takes call q.messages P → P (after q call).messages
goes_after q (Put m) P seen goes = goes
goes_after q (Get m) P seen goes = subst (λ (messages : List (List ℕ)). P (remove messages 0)) (sym goes.1) goes.2
goes_after q (Ack true) P seen goes = subst P (sym goes.0) goes.1
goes_after q (Ack false) P seen goes = goes
goes_after q (Crash Sender) P seen goes = goes
goes_after q (Crash Receiver) P seen goes = goes
goes_after q (Recover Sender) P seen goes = goes
goes_after q (Recover Receiver) P seen goes = goes
goes_after q (DownReply side) P seen goes = goes
goes_after q (Lose place) P seen goes = absurd cc
goes_after q LoseAck P seen goes = absurd cc

settled_known : (is_last : Bool) (status : Status) → (status ≡ No → ⊥) → (if is_last then settled status Yes else status) ≡ No → ⊥
settled_known is_last No known = λ gone. known refl
settled_known true Yes known = λ gone. absurd cc
settled_known false Yes known = λ gone. absurd cc
settled_known true Open known = λ gone. absurd cc
settled_known false Open known = λ gone. absurd cc

-- the status where the next answer is yes
yes_after : (q x : QueueState) (call : Step) (calls : List Step) → (is_told_yes (call ∷ calls) ≡ true → q.status ≡ No → ⊥) → Allows q call
    → IsSound x → Allows x call → Serves (after x call) calls → is_loss call ≡ false
    → is_told_yes calls ≡ true → (after q call).status ≡ No → ⊥
yes_after q x (Put m) calls when_yes mine sound allowed rest seen told gone = absurd cc
yes_after q x (Get m) calls when_yes mine sound allowed rest seen told gone = settled_known (0 + 1 == length q.messages) q.status (when_yes told) gone
yes_after q x (Ack true) calls when_yes mine sound allowed rest seen told gone = when_yes refl gone
yes_after q x (Ack false) calls when_yes mine sound allowed rest seen told gone = not_lost calls x sound told rest allowed.1
yes_after q x (Crash Sender) calls when_yes mine sound allowed rest seen told gone = when_yes told gone
yes_after q x (Crash Receiver) calls when_yes mine sound allowed rest seen told gone = when_yes told gone
yes_after q x (Recover Sender) calls when_yes mine sound allowed rest seen told gone = when_yes told gone
yes_after q x (Recover Receiver) calls when_yes mine sound allowed rest seen told gone = when_yes told gone
yes_after q x (DownReply side) calls when_yes mine sound allowed rest seen told gone = when_yes told gone
yes_after q x (Lose place) calls when_yes mine sound allowed rest seen told gone = absurd cc
yes_after q x LoseAck calls when_yes mine sound allowed rest seen told gone = absurd cc

told_later : (down told : Bool) → down ≡ false → told ≡ true → (if down then false else told) ≡ true
told_later true told up is = absurd cc
told_later false told up is = is

-- and where it is no
no_after : (q x : QueueState) (call : Step) (calls : List Step) (note : Note) (notes : List Note)
    → (is_told_no (call ∷ calls) (note ∷ notes) ≡ true → q.status ≡ No) → Allows q call → Allows x call
    → is_loss call ≡ false → note.is_down ≡ false → is_told_no calls notes ≡ true → (after x call).status ≡ No → (after q call).status ≡ No
no_after q x (Put m) calls note notes when_no mine allowed seen up told gone = absurd cc
no_after q x (Get m) calls note notes when_no mine allowed seen up told gone = settled_got (0 + 1 == length q.messages) q.status (when_no (told_later note.is_down (is_told_no calls notes) up told))
no_after q x (Ack true) calls note notes when_no mine allowed seen up told gone = let known = allowed.1 in absurd cc
no_after q x (Ack false) calls note notes when_no mine allowed seen up told gone = mine.1
no_after q x (Crash Sender) calls note notes when_no mine allowed seen up told gone = when_no (told_later note.is_down (is_told_no calls notes) up told)
no_after q x (Crash Receiver) calls note notes when_no mine allowed seen up told gone = when_no (told_later note.is_down (is_told_no calls notes) up told)
no_after q x (Recover Sender) calls note notes when_no mine allowed seen up told gone = when_no (told_later note.is_down (is_told_no calls notes) up told)
no_after q x (Recover Receiver) calls note notes when_no mine allowed seen up told gone = when_no (told_later note.is_down (is_told_no calls notes) up told)
no_after q x (DownReply side) calls note notes when_no mine allowed seen up told gone = when_no (told_later note.is_down (is_told_no calls notes) up told)
no_after q x (Lose place) calls note notes when_no mine allowed seen up told gone = absurd cc
no_after q x LoseAck calls note notes when_no mine allowed seen up told gone = absurd cc

pub called : (q : QueueState) (call : Step) (calls : List Step) (note : Note) (notes : List Note) → Ready q (call ∷ calls) (note ∷ notes)
    → Allows q call × (is_loss call ≡ false) × Called (after q call) calls notes note
called q call calls note notes r =
    let t = r.tracks in
    let f = first_call t.real call calls t.real_sound t.serves in
    let x = f.here in
    let sender : x.sender_down ≡ q.sender_down = f.falls.sender ∙ t.sender in
    let receiver : x.receiver_down ≡ q.receiver_down = f.falls.receiver ∙ t.receiver in
    let P : List (List ℕ) → Type 0 = λ rest. Choose note.is_down (Leaves (is_told_yes calls) (wanted_of calls note) rest) (GoesOn calls notes rest) in
    let mine = is_allowed q x call calls note notes P sender receiver t.sound t.told_yes r.told_no r.goes_on f.seen f.allowed in
    let next = marks_after q call calls note notes t.marks in
    let sender_next : (after x call).sender_down ≡ (after q call).sender_down = sender-after x call ∙ ap (λ (down : Bool). sender_after down call) sender ∙ sym (sender-after q call) in
    let receiver_next : (after x call).receiver_down ≡ (after q call).receiver_down = receiver-after x call ∙ ap (λ (down : Bool). receiver_after down call) receiver ∙ sym (receiver-after q call) in
    let real_sound = sound_after x call f.allowed f.falls.sound in (
      mine,
      f.seen,
      record {
        tracks = record {
          real = after x call;
          sender = sender_next;
          receiver = receiver_next;
          real_sound = real_sound;
          serves = f.rest;
          sound = sound_after q call mine t.sound;
          marks = next.1;
          plan = t.plan.1;
          told_yes = yes_after q x call calls t.told_yes mine f.falls.sound f.allowed f.rest f.seen;
        };
        noted = t.plan.0;
        told_no = λ up told. no_after q x call calls note notes r.told_no mine f.allowed f.seen up told
            (lost_before calls notes (after x call) real_sound
            (ap (λ (down : Bool). down || (after x call).receiver_down) sender_next ∙ ap (λ (down : Bool). (after q call).sender_down || down) receiver_next ∙ sym next.0 ∙ up)
            (marks_of q x call calls notes sender_next receiver_next next.1) told f.rest);
        goes_on = goes_after q call P f.seen r.goes_on;
      },
    )
  where
    marks_of : (q x : QueueState) (call : Step) (calls : List Step) (notes : List Note)
        → (after x call).sender_down ≡ (after q call).sender_down → (after x call).receiver_down ≡ (after q call).receiver_down
        → Marks (after q call) calls notes → Marks (after x call) calls notes
    marks_of q x call calls notes sender receiver marks =
        subst (λ (a : Bool). MarksDown a (after x call).receiver_down calls notes) (sym sender) (subst (λ (b : Bool). MarksDown (after q call).sender_down b calls notes) (sym receiver) marks)

chosen : (first : Bool) (A B : Type 0) → first ≡ false → Choose first A B → B
chosen true A B is one = absurd cc
chosen false A B is one = one

chosen_first : (first : Bool) (A B : Type 0) → first ≡ true → Choose first A B → A
chosen_first true A B is one = one
chosen_first false A B is one = absurd cc

-- where both sides are up nothing is lost
pub ready_up : (q : QueueState) (calls : List Step) (notes : List Note) (note : Note) → note.is_down ≡ false → Called q calls notes note → Ready q calls notes
ready_up q calls notes note up c = record {
  tracks = c.tracks;
  told_no = c.told_no up;
  goes_on = chosen note.is_down (Leaves (is_told_yes calls) (wanted_of calls note) q.messages) (GoesOn calls notes q.messages) up c.goes_on;
}

-- where a side is down losses can leave what is wanted
pub can_leave : (q : QueueState) (calls : List Step) (notes : List Note) (note : Note) → note.is_down ≡ true → Called q calls notes note
    → Leaves (is_told_yes calls) (wanted_of calls note) q.messages
can_leave q calls notes note down c = chosen_first note.is_down (Leaves (is_told_yes calls) (wanted_of calls note) q.messages) (GoesOn calls notes q.messages) down c.goes_on

-- what is told yes next is not told no
not_both : (calls : List Step) (notes : List Note) → is_told_yes calls ≡ true → is_told_no calls notes ≡ true → ⊥
not_both [] notes when_yes when_no = absurd cc
not_both (call ∷ calls) [] when_yes when_no = absurd cc
not_both (Put m ∷ calls) (note ∷ notes) when_yes when_no = absurd cc
not_both (Ack true ∷ calls) (note ∷ notes) when_yes when_no = absurd cc
not_both (Ack false ∷ calls) (note ∷ notes) when_yes when_no = absurd cc
not_both (Get m ∷ calls) (note ∷ notes) when_yes when_no = not_both calls notes when_yes (if_neither note.is_down (is_told_no calls notes) when_no).1
not_both (Crash side ∷ calls) (note ∷ notes) when_yes when_no = not_both calls notes when_yes (if_neither note.is_down (is_told_no calls notes) when_no).1
not_both (Recover side ∷ calls) (note ∷ notes) when_yes when_no = not_both calls notes when_yes (if_neither note.is_down (is_told_no calls notes) when_no).1
not_both (DownReply side ∷ calls) (note ∷ notes) when_yes when_no = not_both calls notes when_yes (if_neither note.is_down (is_told_no calls notes) when_no).1
not_both (Lose place ∷ calls) (note ∷ notes) when_yes when_no = not_both calls notes when_yes (if_neither note.is_down (is_told_no calls notes) when_no).1
not_both (LoseAck ∷ calls) (note ∷ notes) when_yes when_no = not_both calls notes when_yes (if_neither note.is_down (is_told_no calls notes) when_no).1

pub ready_down : (q lost : QueueState) (calls : List Step) (notes : List Note) (note : Note) → note.is_down ≡ true
    → Called q calls notes note → Settles q lost (wanted_of calls note) note.is_told_no → Ready lost calls notes
ready_down q lost calls notes note down c s =
    let t = c.tracks in
    let marks : Marks lost calls notes = subst (λ (a : Bool). MarksDown a lost.receiver_down calls notes) (sym s.sender) (subst (λ (b : Bool). MarksDown q.sender_down b calls notes) (sym s.receiver) t.marks) in
    let real_marks : Marks t.real calls notes = subst (λ (a : Bool). MarksDown a t.real.receiver_down calls notes) (sym t.sender) (subst (λ (b : Bool). MarksDown q.sender_down b calls notes) (sym t.receiver) t.marks) in
    let g = serves_goes_on calls notes t.real t.real_sound real_marks t.plan t.serves in
    record {
      tracks = record {
        real = t.real;
        sender = t.sender ∙ sym s.sender;
        receiver = t.receiver ∙ sym s.receiver;
        real_sound = t.real_sound;
        serves = t.serves;
        sound = s.sound t.sound;
        marks = marks;
        plan = t.plan;
        told_yes = λ told gone. t.told_yes told (sym (s.kept (not_no told) (alike told)) ∙ gone);
      };
      told_no = λ told. s.denied (c.noted.2 ∙ told);
      goes_on = subst (λ (messages : List (List ℕ)). GoesOn calls notes messages) (sym s.messages) (c.noted.0 down g.here.messages g.goes_on).0;
    }
  where
    no_of : (b : Bool) → (b ≡ true → ⊥) → b ≡ false
    no_of true never = absurd (never refl)
    no_of false never = refl

    not_no : is_told_yes calls ≡ true → note.is_told_no ≡ false
    not_no told = c.noted.2 ∙ no_of (is_told_no calls notes) (not_both calls notes told)

    alike : is_told_yes calls ≡ true → last (wanted_of calls note) ≡ last q.messages
    alike told = (subst (λ (mode : Bool). Leaves mode (wanted_of calls note) q.messages) told (can_leave q calls notes note down c)).1
