-- Where some run has the calls, they go on as planned.
use Rattle.std.proofs.Common.{◌≡◌, ℕ, ◌+◌, ◌==◌, ◌||◌, Bool, true, false, if◌then◌else◌, List, [], ◌∷◌, length, refl, sym, ◌∙◌, ap, subst}
use Rattle.amo_object.specs.declared.step.End.TheVariants.{Sender, Receiver}
use Rattle.amo_object.specs.declared.status.Status.{Status}
use Rattle.amo_object.specs.declared.status.Status.TheVariants.{Yes, No, Open}
use Rattle.amo_object.specs.declared.step.Step.{Step}
use Rattle.amo_object.specs.declared.step.Step.TheVariants.{Put, Get, Ack, Crash, Recover, DownReply, Lose, LoseAck}
use Rattle.amo_object.specs.Queue.{QueueState, Allows, after, settled, is_any_down}
use Rattle.amo_object.specs.Run.{is_loss}
use Rattle.amo_resolve.specs.declared.plan.Note.{Note}
use Rattle.amo_resolve.specs.Plan.{Leaves, is_told_yes, is_told_no, Takes, Choose, wanted_of, GoesOn, IsPlan, MarksDown, sender_after, receiver_after}
use Rattle.amo_resolve.proofs.Subsequences.{leaves-trans}
use Rattle.amo_resolve.specs.Telling.{Agrees, IsSound}
use Rattle.amo_resolve.proofs.Falls.{sound_after, first_taken, Falls, falls-refl, Serves, first_call}

-- which sides are down after a step
pub sender-after : (q : QueueState) (x : Step) → (after q x).sender_down ≡ sender_after q.sender_down x
sender-after q (Put m) = refl
sender-after q (Get m) = refl
sender-after q (Ack answer) = refl
sender-after q (Crash Sender) = refl
sender-after q (Crash Receiver) = refl
sender-after q (Recover Sender) = refl
sender-after q (Recover Receiver) = refl
sender-after q (DownReply side) = refl
sender-after q (Lose place) = refl
sender-after q LoseAck = refl

pub receiver-after : (q : QueueState) (x : Step) → (after q x).receiver_down ≡ receiver_after q.receiver_down x
receiver-after q (Put m) = refl
receiver-after q (Get m) = refl
receiver-after q (Ack answer) = refl
receiver-after q (Crash Sender) = refl
receiver-after q (Crash Receiver) = refl
receiver-after q (Recover Sender) = refl
receiver-after q (Recover Receiver) = refl
receiver-after q (DownReply side) = refl
receiver-after q (Lose place) = refl
receiver-after q LoseAck = refl

-- the notes of a queue whose sides are down as another's
abbrev pub Marks : QueueState → List Step → List Note → Type 0
Marks q calls notes = MarksDown q.sender_down q.receiver_down calls notes

marks_same : (q x : QueueState) (calls : List Step) (notes : List Note) → x.sender_down ≡ q.sender_down → x.receiver_down ≡ q.receiver_down
    → Marks q calls notes → Marks x calls notes
marks_same q x calls notes sender receiver marks =
    subst (λ (a : Bool). MarksDown a x.receiver_down calls notes) (sym sender) (subst (λ (b : Bool). MarksDown q.sender_down b calls notes) (sym receiver) marks)

pub marks_after : (q : QueueState) (call : Step) (calls : List Step) (note : Note) (notes : List Note) → Marks q (call ∷ calls) (note ∷ notes)
    → (note.is_down ≡ is_any_down (after q call)) × Marks (after q call) calls notes
marks_after q call calls note notes marks = (
  marks.0 ∙ ap (λ (a : Bool). a || receiver_after q.receiver_down call) (sym (sender-after q call)) ∙ ap (λ (b : Bool). (after q call).sender_down || b) (sym (receiver-after q call)),
  subst (λ (a : Bool). MarksDown a (after q call).receiver_down calls notes) (sym (sender-after q call)) (subst (λ (b : Bool). MarksDown (sender_after q.sender_down call) b calls notes) (sym (receiver-after q call)) marks.1),
)

-- a status No stays but for a put
pub settled_got : (is_last : Bool) (status : Status) → status ≡ No → (if is_last then settled status Yes else status) ≡ No
settled_got true No e = refl
settled_got false No e = refl
settled_got is_last Yes e = absurd cc
settled_got is_last Open e = absurd cc

-- and comes from losses alone
settled_before : (is_last : Bool) (status : Status) → (if is_last then settled status Yes else status) ≡ No → status ≡ No
settled_before is_last No e = refl
settled_before true Yes e = absurd cc
settled_before false Yes e = absurd cc
settled_before true Open e = absurd cc
settled_before false Open e = absurd cc

-- where the next answer is yes the status is not No
not_lost_after : (call : Step) (calls : List Step) → ((y : QueueState) → IsSound y → is_told_yes calls ≡ true → Serves y calls → y.status ≡ No → ⊥)
    → is_told_yes (call ∷ calls) ≡ true → (x : QueueState) → Allows x call → is_loss call ≡ false → IsSound x → Serves (after x call) calls → x.status ≡ No → ⊥
not_lost_after (Put m) calls later told x allowed seen sound rest gone = absurd cc
not_lost_after (Get m) calls later told x allowed seen sound rest gone =
    later (after x (Get m)) (sound_after x (Get m) allowed sound) told rest (settled_got (0 + 1 == length x.messages) x.status gone)
not_lost_after (Ack true) calls later told x allowed seen sound rest gone = let yes = allowed.1 in absurd cc
not_lost_after (Ack false) calls later told x allowed seen sound rest gone = absurd cc
not_lost_after (Crash Sender) calls later told x allowed seen sound rest gone = later (after x (Crash Sender)) sound told rest gone
not_lost_after (Crash Receiver) calls later told x allowed seen sound rest gone = later (after x (Crash Receiver)) sound told rest gone
not_lost_after (Recover Sender) calls later told x allowed seen sound rest gone = later (after x (Recover Sender)) sound told rest gone
not_lost_after (Recover Receiver) calls later told x allowed seen sound rest gone = later (after x (Recover Receiver)) sound told rest gone
not_lost_after (DownReply side) calls later told x allowed seen sound rest gone = later x sound told rest gone
not_lost_after (Lose place) calls later told x allowed seen sound rest gone = absurd cc
not_lost_after LoseAck calls later told x allowed seen sound rest gone = absurd cc

pub not_lost : (calls : List Step) (q : QueueState) → IsSound q → is_told_yes calls ≡ true → Serves q calls → q.status ≡ No → ⊥
not_lost [] q sound told serves gone = absurd cc
not_lost (call ∷ calls) q sound told serves gone =
    let f = first_call q call calls sound serves in
    not_lost_after call calls (λ y s t r g. not_lost calls y s t r g) told f.here f.allowed f.seen f.falls.sound f.rest (f.falls.lost gone)

pub if_neither : (b p : Bool) → (if b then false else p) ≡ true → (b ≡ false) × (p ≡ true)
if_neither true p e = absurd cc
if_neither false p e = (refl, e)

-- where both sides are up and the next answer is no the status is No
abbrev pub IsLost : List Step → List Note → Type 0
IsLost calls notes = (q : QueueState) → IsSound q → is_any_down q ≡ false → Marks q calls notes → is_told_no calls notes ≡ true → Serves q calls → q.status ≡ No

lost_further : (x : QueueState) (call : Step) (calls : List Step) (note : Note) (notes : List Note) → IsLost calls notes → Allows x call
    → IsSound x → Serves (after x call) calls
    → Marks x (call ∷ calls) (note ∷ notes) → (if note.is_down then false else is_told_no calls notes) ≡ true → (after x call).status ≡ No
lost_further x call calls note notes later allowed sound rest marks told =
    let both = if_neither note.is_down (is_told_no calls notes) told in
    let next = marks_after x call calls note notes marks in
    later (after x call) (sound_after x call allowed sound) (sym next.0 ∙ both.0) next.1 both.1 rest

lost_by : (call : Step) (calls : List Step) (note : Note) (notes : List Note) → IsLost calls notes → is_told_no (call ∷ calls) (note ∷ notes) ≡ true
    → (x : QueueState) → Allows x call → is_loss call ≡ false → IsSound x → Serves (after x call) calls → Marks x (call ∷ calls) (note ∷ notes) → x.status ≡ No
lost_by (Put m) calls note notes later told x allowed seen sound rest marks = absurd cc
lost_by (Get m) calls note notes later told x allowed seen sound rest marks =
    settled_before (0 + 1 == length x.messages) x.status (lost_further x (Get m) calls note notes later allowed sound rest marks told)
lost_by (Ack true) calls note notes later told x allowed seen sound rest marks = absurd cc
lost_by (Ack false) calls note notes later told x allowed seen sound rest marks = allowed.1
lost_by (Crash Sender) calls note notes later told x allowed seen sound rest marks = lost_further x (Crash Sender) calls note notes later allowed sound rest marks told
lost_by (Crash Receiver) calls note notes later told x allowed seen sound rest marks = lost_further x (Crash Receiver) calls note notes later allowed sound rest marks told
lost_by (Recover Sender) calls note notes later told x allowed seen sound rest marks = lost_further x (Recover Sender) calls note notes later allowed sound rest marks told
lost_by (Recover Receiver) calls note notes later told x allowed seen sound rest marks = lost_further x (Recover Receiver) calls note notes later allowed sound rest marks told
lost_by (DownReply side) calls note notes later told x allowed seen sound rest marks = lost_further x (DownReply side) calls note notes later allowed sound rest marks told
lost_by (Lose place) calls note notes later told x allowed seen sound rest marks = absurd cc
lost_by LoseAck calls note notes later told x allowed seen sound rest marks = absurd cc

pub lost_before : (calls : List Step) (notes : List Note) → IsLost calls notes
lost_before [] notes = λ q sound up marks told serves. absurd cc
lost_before (call ∷ calls) [] = λ q sound up marks told serves. absurd marks
lost_before (call ∷ calls) (note ∷ notes) = λ q sound up marks told serves.
    let f = first_call q call calls sound serves in
    ap (λ (x : QueueState). x.status) (sym (f.falls.up up)) ∙ lost_by call calls note notes (lost_before calls notes) told f.here f.allowed f.seen f.falls.sound f.rest
    (subst (λ (x : QueueState). Marks x (call ∷ calls) (note ∷ notes)) (sym (f.falls.up up)) marks)

-- a call that a queue takes its messages take
takes : (x : QueueState) (call : Step) (P : List (List ℕ) → Type 0) → Allows x call → is_loss call ≡ false → IsSound x
    → P (after x call).messages → Takes call x.messages P
takes x (Put m) P allowed seen sound rest = rest
takes x (Get m) P allowed seen sound rest = (_, first_taken x.messages m allowed.1, rest)
takes x (Ack true) P allowed seen sound rest =
    let empty : x.messages ≡ [] = subst (λ (status : Status). Agrees x.messages status) allowed.1 sound in
    (empty, subst (λ (messages : List (List ℕ)). P messages) empty rest)
takes x (Ack false) P allowed seen sound rest = rest
takes x (Crash Sender) P allowed seen sound rest = rest
takes x (Crash Receiver) P allowed seen sound rest = rest
takes x (Recover Sender) P allowed seen sound rest = rest
takes x (Recover Receiver) P allowed seen sound rest = rest
takes x (DownReply side) P allowed seen sound rest = rest
takes x (Lose place) P allowed seen sound rest = absurd cc
takes x LoseAck P allowed seen sound rest = absurd cc

-- a queue from which some run has the calls, and losses to where they go on as planned
pub record Going (q : QueueState) (calls : List Step) (notes : List Note) : Type 0 where
  pub here : QueueState
  pub falls : Falls q here
  pub goes_on : GoesOn calls notes here.messages
  pub serves : Serves here calls

after_call : (down : Bool) (calls : List Step) (notes : List Note) (note : Note) (x : QueueState) → down ≡ is_any_down x
    → (down ≡ true → (messages : List (List ℕ)) → GoesOn calls notes messages → Leaves (is_told_yes calls) (wanted_of calls note) messages)
    → Going x calls notes → Choose down (Leaves (is_told_yes calls) (wanted_of calls note) x.messages) (GoesOn calls notes x.messages)
after_call true calls notes note x is least g =
    leaves-trans (is_told_yes calls) (wanted_of calls note) g.here.messages x.messages (least refl g.here.messages g.goes_on) g.falls.part
    (λ told. g.falls.kept (not_lost calls g.here g.falls.sound told g.serves))
after_call false calls notes note x is least g = subst (λ (y : QueueState). GoesOn calls notes y.messages) (g.falls.up (sym is)) g.goes_on

pub serves_goes_on : (calls : List Step) (notes : List Note) (q : QueueState) → IsSound q → Marks q calls notes → IsPlan calls notes
    → Serves q calls → Going q calls notes
serves_goes_on [] notes q sound marks plan serves = record { here = q; falls = falls-refl q sound; goes_on = tt; serves = serves }
serves_goes_on (call ∷ calls) [] q sound marks plan serves = absurd plan
serves_goes_on (call ∷ calls) (note ∷ notes) q sound marks plan serves =
    let f = first_call q call calls sound serves in
    let next = marks_after f.here call calls note notes (marks_same q f.here (call ∷ calls) (note ∷ notes) f.falls.sender f.falls.receiver marks) in
    let g = serves_goes_on calls notes (after f.here call) (sound_after f.here call f.allowed f.falls.sound) next.1 plan.1 f.rest in
    record {
      here = f.here;
      falls = f.falls;
      goes_on = takes f.here call (λ (rest : List (List ℕ)). Choose note.is_down (Leaves (is_told_yes calls) (wanted_of calls note) rest) (GoesOn calls notes rest)) f.allowed f.seen f.falls.sound
          (after_call note.is_down calls notes note (after f.here call) next.0 (λ down messages goes. (plan.0.0 down messages goes).1) g);
      serves = f.serves;
    }
