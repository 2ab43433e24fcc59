-- What a book's calls do to the mode of a charge.
use Rattle.std.proofs.Common.{◌≡◌, ℕ, Bool, true, false, List, [], ◌∷◌, ◌++◌, ◌==◌, length, Option, None, Some, refl, sym, ap, subst, ◌∙◌, eqb, cond, arith}
use Rattle.std.proofs.lemmas.Bool.Decides.{nat_tests}
use Rattle.amo_object.specs.declared.step.End.{End}
use Rattle.amo_object.specs.declared.step.End.TheVariants.{Sender, Receiver}
use Rattle.amo_packet.specs.declared.packet.OwnedPacket.{OwnedPacket}
use Rattle.amo_packet.specs.declared.packet.OwnedBody.TheVariants as packet
use Rattle.amo_core.specs.declared.act.Act.{Act}
use Rattle.amo_core.specs.declared.act.Act.TheVariants as act
use Rattle.amo_core.specs.declared.sender.SenderMode.{SenderMode}
use Rattle.amo_core.specs.declared.sender.SenderMode.TheVariants as sending
use Rattle.amo_core.specs.declared.receiver.ReceiverMode.{ReceiverMode}
use Rattle.amo_core.specs.declared.receiver.ReceiverMode.TheVariants as receiving
use Rattle.amo_core.specs.declared.reply.Reply.TheVariants as reply
use Rattle.amo_core.specs.Row.{silent}
use Rattle.amo_core.specs.Sender as sender
use Rattle.amo_core.specs.Receiver as receiver
use Rattle.amo_core.specs.declared.mode.Mode.{Mode}
use Rattle.amo_core.specs.Automaton.{Writes, mode_of}
use Rattle.amo_world.specs.declared.event.Event.{Event}
use Rattle.amo_world.specs.Stream.{Stream, after, automaton_of, emission_of}
use Rattle.amo_world.specs.History.{stream_after, after_if}
use Rattle.amo_book.specs.declared.drive.Done.{Done}
use Rattle.amo_book.specs.Charge.{ChargeState}
use Rattle.amo_book.specs.Drive.{Driven, DrivenSilently}
use Rattle.amo_book.specs.Pass.{PassState, automaton_after}
use Rattle.amo_host.specs.Modes.{is_open, MayOpen}

-- where nothing is emitted, it is so with every buffer that stays as it is
silent_writes : (emitted : Option OwnedPacket) (old new : List ℕ) (length : Option ℕ) → length ≡ None → Writes emitted old new length → (buffer : List ℕ) → Writes emitted buffer buffer length
silent_writes None old new length none writes buffer = (refl, writes.1)
silent_writes (Some p) old new length none writes buffer = absurd (cc (writes.2, none))

pub silently_driven : (v w : PassState) (c d : ChargeState) (act : Act) (done : Done) (buffer : List ℕ) → DrivenSilently v w c d act done → Driven v w c d act buffer buffer done
silently_driven v w c d act done buffer h =
    let driven = h.1.2 in
    record {
      grown = driven.grown;
      answered = driven.answered;
      emitted = silent_writes (emission_of (stream_after c.stream driven.grown.earlier) c.side act) h.1.0 h.1.1 done.length h.0 driven.emitted buffer;
      mode = driven.mode;
      charge = driven.charge;
      found = driven.found;
    }

-- no handshake is open at a receiver
receiver_shut : (m : ReceiverMode) → is_open (receiver.kind m) ≡ false
receiver_shut receiving.Idle = refl
receiver_shut (receiving.Accept jd id) = refl
receiver_shut (receiving.Rcvd id m) = refl
receiver_shut (receiving.Ack id) = refl
receiver_shut receiving.Down = refl

-- a sender's handshake opens by a start at rest alone
abbrev state : ℕ → SenderMode → List (List ℕ) → sender.SenderState
state st mode waiting = record { stream = st; mode = mode; waiting = waiting }

put_shut : (st : ℕ) (got : Bool) (waiting : List (List ℕ)) (m : List ℕ) (b : Bool)
    → is_open (sender.kind (cond b (silent (state st (sending.Quiet got) waiting) reply.Full) (silent (state st (sending.Quiet got) (waiting ++ m ∷ [])) reply.Ok)).state.mode) ≡ false
put_shut st got waiting m true = refl
put_shut st got waiting m false = refl

ack_shut : (st : ℕ) (got : Bool) (waiting : List (List ℕ)) (id : ℕ) (b : Bool) → is_open (sender.kind (sender.cleaning_up (state st (sending.Quiet got) waiting) id b).state.mode) ≡ false
ack_shut st got waiting id true = refl
ack_shut st got waiting id false = refl

get_ack_shut : (st : ℕ) (got : Bool) (waiting rest : List (List ℕ)) → is_open (sender.kind (sender.get_ack (state st (sending.Quiet got) waiting) (sending.Quiet got) rest).state.mode) ≡ false
get_ack_shut st true waiting [] = refl
get_ack_shut st false waiting [] = refl
get_ack_shut st true waiting (m ∷ rest) = refl
get_ack_shut st false waiting (m ∷ rest) = refl

down_get_ack : (st : ℕ) (waiting rest : List (List ℕ)) → is_open (sender.kind (sender.get_ack (state st sending.Down waiting) sending.Down rest).state.mode) ≡ false
down_get_ack st waiting [] = refl
down_get_ack st waiting (m ∷ rest) = refl

down_start : (st word : ℕ) (waiting rest : List (List ℕ)) → is_open (sender.kind (sender.start (state st sending.Down waiting) sending.Down rest word).state.mode) ≡ false
down_start st word waiting [] = refl
down_start st word waiting (m ∷ rest) = refl

down_batch : (st word : ℕ) (waiting rest : List (List ℕ)) → is_open (sender.kind (sender.start_batch (state st sending.Down waiting) sending.Down rest word).state.mode) ≡ false
down_batch st word waiting [] = refl
down_batch st word waiting (m ∷ rest) = refl

sender_opens : (st : ℕ) (waiting : List (List ℕ)) (mode : SenderMode) (a : Act) → is_open (sender.kind (sender.row (state st mode waiting) a).state.mode) ≡ true → is_open (sender.kind mode) ≡ false → MayOpen a (sender.kind mode)
sender_opens st waiting (sending.NeedId jd m) a now_open was_shut = absurd (cc was_shut)
sender_opens st waiting (sending.Send id m) a now_open was_shut = absurd (cc was_shut)
sender_opens st waiting (sending.Quiet got) (act.Put m) now_open was_shut = absurd (cc (now_open, put_shut st got waiting m (length waiting == 16)))
sender_opens st waiting (sending.Quiet got) act.Get now_open was_shut = absurd (cc now_open)
sender_opens st waiting (sending.Quiet got) act.Ack now_open was_shut = absurd (cc (now_open, get_ack_shut st got waiting waiting))
sender_opens st waiting (sending.Quiet got) (act.Start word) now_open was_shut = tt
sender_opens st waiting (sending.Quiet got) (act.Batch word) now_open was_shut = tt
sender_opens st waiting (sending.Quiet got) act.Resend now_open was_shut = absurd (cc now_open)
sender_opens st waiting (sending.Quiet got) (act.Deliver p word) now_open was_shut = elim p.body as (λ b. is_open (sender.kind (sender.deliver (state st (sending.Quiet got) waiting) b).state.mode) ≡ true → ⊥) [
  | packet.NeedUid jd ↦ λ y. absurd (cc y)
  | packet.Accept jd id ↦ λ y. absurd (cc y)
  | packet.Send id m ↦ λ y. absurd (cc y)
  | packet.Ack id b ↦ λ y. absurd (cc (y, ack_shut st got waiting id b))
  | packet.Cleanup id ↦ λ y. absurd (cc y)
  | packet.Batch id b ↦ λ y. absurd (cc y)
] now_open
sender_opens st waiting (sending.Quiet got) act.Crash now_open was_shut = absurd (cc now_open)
sender_opens st waiting (sending.Quiet got) act.Recover now_open was_shut = absurd (cc now_open)
sender_opens st waiting sending.Down (act.Put m) now_open was_shut = absurd (cc now_open)
sender_opens st waiting sending.Down act.Get now_open was_shut = absurd (cc now_open)
sender_opens st waiting sending.Down act.Ack now_open was_shut = absurd (cc (now_open, down_get_ack st waiting waiting))
sender_opens st waiting sending.Down (act.Start word) now_open was_shut = absurd (cc (now_open, down_start st word waiting waiting))
sender_opens st waiting sending.Down (act.Batch word) now_open was_shut = absurd (cc (now_open, down_batch st word waiting waiting))
sender_opens st waiting sending.Down act.Resend now_open was_shut = absurd (cc now_open)
sender_opens st waiting sending.Down (act.Deliver p word) now_open was_shut = elim p.body as (λ b. is_open (sender.kind (sender.deliver (state st sending.Down waiting) b).state.mode) ≡ true → ⊥) [
  | packet.NeedUid jd ↦ λ y. absurd (cc y)
  | packet.Accept jd id ↦ λ y. absurd (cc y)
  | packet.Send id m ↦ λ y. absurd (cc y)
  | packet.Ack id b ↦ λ y. absurd (cc y)
  | packet.Cleanup id ↦ λ y. absurd (cc y)
  | packet.Batch id b ↦ λ y. absurd (cc y)
] now_open
sender_opens st waiting sending.Down act.Crash now_open was_shut = absurd (cc now_open)
sender_opens st waiting sending.Down act.Recover now_open was_shut = absurd (cc now_open)

side_opens : (s : Stream) (side : End) (a : Act) (mode : Mode) → (side ≡ Sender → mode_of (automaton_of s side) ≡ mode) → is_open (mode_of (automaton_of (after s side a) side)) ≡ true → is_open mode ≡ false → MayOpen a mode
side_opens s Sender a mode found now_open was_shut =
    let x = s.sender.state in
    let is = found refl in
    subst (MayOpen a) is (sender_opens x.stream x.waiting x.mode a now_open (ap is_open is ∙ was_shut))
side_opens s Receiver a mode found now_open was_shut = absurd (cc (now_open, receiver_shut (receiver.row s.receiver.state a).state.mode))

-- the stream after its own event
after_own : (number : ℕ) (past : List Event) (e : Event) → e.stream ≡ number → stream_after number (e ∷ past) ≡ after (stream_after number past) e.side e.act
after_own number past e own =
    let test : eqb number e.stream ≡ true = grind (arith, nat_tests) in
    ap (λ b. after_if b (stream_after number past) e) test

-- so a charge comes to hold an open handshake by a start at rest alone
pub opens : (v w : PassState) (c d : ChargeState) (a : Act) (old new : List ℕ) (done : Done) → Driven v w c d a old new done → is_open done.mode ≡ true → is_open c.mode ≡ false → MayOpen a c.mode
opens v w c d a old new done driven now_open was_shut =
    let before = stream_after c.stream driven.grown.earlier in
    let after_it : automaton_after c.side c.stream w.seen ≡ automaton_of (after before c.side a) c.side =
    ap (automaton_after c.side c.stream) driven.grown.seen ∙ ap (λ s. automaton_of s c.side) (after_own c.stream driven.grown.earlier _ refl) in
    side_opens before c.side a c.mode driven.found (sym (ap is_open (driven.mode ∙ ap mode_of after_it)) ∙ now_open) was_shut
