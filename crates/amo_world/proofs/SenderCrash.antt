-- Forward simulation, of a sender that crashes: once it is down, all is lost but what the receiver holds or may be sent.
use Rattle.std.proofs.Common.{◌≡◌, ℕ, true, false, not, eqb, List, [], ◌∷◌, ◌++◌, inl, inr, refl, sym, ap, subst, append-nil}
use Rattle.std.proofs.lemmas.Bool.Decides.{eqb_tells}
use Rattle.amo_object.specs.declared.step.End.TheVariants.{Sender}
use Rattle.amo_object.specs.declared.status.Status.TheVariants.{No}
use Rattle.amo_packet.specs.declared.packet.OwnedPacket.{OwnedPacket}
use Rattle.amo_core.specs.declared.act.Act.TheVariants as act
use Rattle.amo_core.specs.declared.sender.SenderMode.{SenderMode}
use Rattle.amo_core.specs.declared.sender.SenderMode.TheVariants as sending
use Rattle.amo_core.specs.Sender.{messages_in}
use Rattle.amo_core.specs.declared.payload.Payload.{Payload}
use Rattle.amo_core.specs.declared.receiver.ReceiverMode.{ReceiverMode}
use Rattle.amo_core.specs.declared.receiver.ReceiverMode.TheVariants as receiving
use Rattle.amo_world.specs.Stream.{Stream, after}
use Rattle.amo_world.specs.Doubt.{Entry, DoubtState, is_any_down, set_down, Moves}
use Rattle.amo_world.specs.View.{entries, carried, received, current, view}
use Rattle.amo_world.proofs.Moving.{quietly_then, state-eq, moves-to}
use Rattle.amo_world.proofs.Unmarking.{AllDoubted, settled_without, leaves}
use Rattle.amo_world.proofs.Marking.{settles_while_down, marks, SameMessages, same-refl, same-append, doubt_all, doubt_all-same, doubt_all-doubted}
use Rattle.amo_world.proofs.Packets.{Any, IsSend}
use Rattle.amo_world.proofs.Invariant.{PacketFacts, SendingFacts, SenderFacts, Invariant}
use Rattle.amo_world.proofs.Views.{carried_is, entries_same, received_unless_sending}

-- a status that is No stays so when messages leave
settled_without-no : (group later : List Entry) → settled_without group later No ≡ No
settled_without-no [] later = refl
settled_without-no (e ∷ group) [] = refl
settled_without-no (e ∷ group) (f ∷ later) = refl

-- while a side is down, all messages but some first ones, whose marks may change, can leave, and the status can become No
forgets : (v : DoubtState) (kept group : List Entry) → is_any_down v ≡ true → SameMessages v.entries (kept ++ group) → AllDoubted group
    → Moves v [] (record v { entries = kept; status = No; status_doubted = false })
forgets v kept group down same doubted =
    let settled : DoubtState = record v { status = No; status_doubted = false } in
    quietly_then
    (settles_while_down v down)
    (quietly_then
    (marks settled (kept ++ group) false down same)
    (moves-to
    (leaves (record settled { entries = kept ++ group }) kept group [] doubted
    (ap (λ (es : List Entry). kept ++ es) (sym (append-nil group)))).moves
    (state-eq _ _ (append-nil kept) (settled_without-no group []) refl refl refl)))

-- what a crash of the sender leaves of the queue, and what leaves
record Forgotten (mode : SenderMode) (waiting : List (List ℕ)) (at : ReceiverMode) (from_sender from_receiver : List OwnedPacket)
    (untaken : List (List ℕ)) : Type 0 where
  group : List Entry
  same : SameMessages (received mode at from_sender ++ (current mode at from_receiver untaken ++ entries false waiting))
      (received sending.Down at from_sender ++ group)
  doubted : AllDoubted group

-- where the receiver may be sent as much before as after, all else leaves
forgotten_besides : (mode : SenderMode) (waiting : List (List ℕ)) (at : ReceiverMode) (from_sender from_receiver : List OwnedPacket)
    (untaken : List (List ℕ))
    → received mode at from_sender ≡ received sending.Down at from_sender → Forgotten mode waiting at from_sender from_receiver untaken
forgotten_besides mode waiting at from_sender from_receiver untaken is =
    let others : List Entry = current mode at from_receiver untaken ++ entries false waiting in
    record {
      group = doubt_all others;
      same =
          rw is (same-append (received sending.Down at from_sender) others (received sending.Down at from_sender) (doubt_all others)
          (same-refl _) (doubt_all-same others));
      doubted = doubt_all-doubted others;
    }

-- what is sent under the identifier that the receiver accepts stays
forgotten_while_accepting : (id : ℕ) (m : Payload) (waiting : List (List ℕ)) (jd accepted : ℕ)
    (from_sender from_receiver : List OwnedPacket) (untaken : List (List ℕ))
    → eqb id accepted ≡ true → untaken ≡ messages_in m → carried from_sender accepted ≡ messages_in m
    → Forgotten (sending.Send id m) waiting (receiving.Accept jd accepted) from_sender from_receiver untaken
forgotten_while_accepting id m waiting jd accepted from_sender from_receiver untaken same one sent_once = record {
  group = doubt_all (entries false waiting);
  same = rw (same, one, sent_once)
      (same-append (entries (not (eqb accepted id)) (messages_in m)) (entries false waiting) (entries true (messages_in m))
      (doubt_all (entries false waiting))
      (entries_same (not (eqb accepted id)) true (messages_in m)) (doubt_all-same (entries false waiting)));
  doubted = doubt_all-doubted (entries false waiting);
}

-- the same while something is sent under some identifier
forgotten_while_sent : (id : ℕ) (m : Payload) (waiting : List (List ℕ)) (at : ReceiverMode) (from_sender from_receiver : List OwnedPacket)
    (untaken : List (List ℕ))
    → ((x y : List (List ℕ)) → Any (IsSend id x) from_sender → Any (IsSend id y) from_sender → x ≡ y)
    → SendingFacts id (messages_in m) at from_sender from_receiver untaken
    → Forgotten (sending.Send id m) waiting at from_sender from_receiver untaken
forgotten_while_sent id m waiting (receiving.Accept jd accepted) from_sender from_receiver untaken one facts =
    elim (eqb_tells id accepted) [
      | inl h ↦
          forgotten_while_accepting id m waiting jd accepted from_sender from_receiver untaken h.0 (facts.untaken_is (sym h.1))
          (subst (λ (x : ℕ). carried from_sender x ≡ messages_in m) h.1
          (carried_is from_sender id (messages_in m) facts.was_sent (λ n s. one n (messages_in m) s facts.was_sent)))
      | inr h ↦ forgotten_besides (sending.Send id m) waiting (receiving.Accept jd accepted) from_sender from_receiver untaken (rw h.0 refl)
    ]
forgotten_while_sent id m waiting (receiving.Rcvd under held) from_sender from_receiver untaken one facts =
    forgotten_besides _ waiting (receiving.Rcvd under held) from_sender from_receiver untaken refl
forgotten_while_sent id m waiting (receiving.Ack under) from_sender from_receiver untaken one facts =
    forgotten_besides _ waiting (receiving.Ack under) from_sender from_receiver untaken refl
forgotten_while_sent id m waiting receiving.Idle from_sender from_receiver untaken one facts =
    forgotten_besides _ waiting receiving.Idle from_sender from_receiver untaken refl
forgotten_while_sent id m waiting receiving.Down from_sender from_receiver untaken one facts =
    forgotten_besides _ waiting receiving.Down from_sender from_receiver untaken refl

-- what a crash leaves, in each mode
forgotten : (mode : SenderMode) (waiting : List (List ℕ)) (at : ReceiverMode) (from_sender from_receiver : List OwnedPacket)
    (untaken : List (List ℕ)) → PacketFacts from_sender from_receiver
    → SenderFacts mode waiting at from_sender from_receiver untaken → Forgotten mode waiting at from_sender from_receiver untaken
forgotten (sending.Send id m) waiting at from_sender from_receiver untaken packets facts =
    forgotten_while_sent id m waiting at from_sender from_receiver untaken (packets.one_message id) facts
forgotten (sending.NeedId jd m) waiting at from_sender from_receiver untaken packets facts =
    forgotten_besides (sending.NeedId jd m) waiting at from_sender from_receiver untaken
    (received_unless_sending (sending.NeedId jd m) at from_sender (λ id. refl))
forgotten (sending.Quiet got) waiting at from_sender from_receiver untaken packets facts =
    forgotten_besides (sending.Quiet got) waiting at from_sender from_receiver untaken
    (received_unless_sending (sending.Quiet got) at from_sender (λ id. refl))
forgotten sending.Down waiting at from_sender from_receiver untaken packets facts =
    forgotten_besides sending.Down waiting at from_sender from_receiver untaken refl

-- a sender of a stream with the facts crashes
pub sender_crashes : (s : Stream) → Invariant s → Moves (set_down (view s) Sender true) [] (view (after s Sender act.Crash))
sender_crashes s f =
    let rest =
    forgotten s.sender.state.mode s.sender.state.waiting s.receiver.state.mode s.sender.emitted s.receiver.emitted s.untaken f.packets
    f.sender in
    moves-to
    (forgets (set_down (view s) Sender true)
    (received sending.Down s.receiver.state.mode s.sender.emitted) rest.group refl rest.same rest.doubted)
    (state-eq _ _ (sym (append-nil (received sending.Down s.receiver.state.mode s.sender.emitted))) refl refl refl refl)
