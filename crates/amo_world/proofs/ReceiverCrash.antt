-- Forward simulation, of a receiver that crashes: once it is down, what it held or may be sent is in doubt.
use Rattle.std.proofs.Common.{◌≡◌, ℕ, Bool, true, false, ◌||◌, not, eqb, List, [], ◌∷◌, ◌++◌, inl, inr, refl, sym, subst}
use Rattle.std.proofs.lemmas.Bool.Decides.{eqb_tells}
use Rattle.amo_object.specs.declared.step.End.TheVariants.{Receiver}
use Rattle.amo_packet.specs.declared.packet.OwnedPacket.{OwnedPacket}
use Rattle.amo_core.specs.declared.act.Act.TheVariants as act
use Rattle.amo_core.specs.declared.sender.SenderMode.{SenderMode}
use Rattle.amo_core.specs.declared.sender.SenderMode.TheVariants as sending
use Rattle.amo_core.specs.declared.receiver.ReceiverMode.{ReceiverMode}
use Rattle.amo_core.specs.declared.receiver.ReceiverMode.TheVariants as receiving
use Rattle.amo_packet.specs.Batch.{Batch, messages}
use Rattle.amo_core.specs.Sender as sender
use Rattle.amo_core.specs.declared.payload.Payload.{Payload}
use Rattle.amo_world.specs.Stream.{Stream, after}
use Rattle.amo_world.specs.Doubt.{entry, Moves, set_down}
use Rattle.amo_world.specs.View.{entries, has, received, current, is_known_in_doubt, view_of, view}
use Rattle.amo_world.proofs.Moving.{state-eq, moves-to, quietly_then}
use Rattle.amo_world.proofs.Unmarking.{leaves}
use Rattle.amo_world.proofs.Marking.{SameMessages, same-refl, same-append, marks, doubt_all, doubt_all-same, doubt_all-doubted}
use Rattle.amo_world.proofs.Invariant.{InvariantAt, Invariant}
use Rattle.amo_world.proofs.Views.{entries_same}
use Rattle.amo_world.proofs.ReceiverMoves.{IsListed, listed, stays_known_without}

or_down : (b : Bool) → b || true ≡ true
or_down true = refl
or_down false = refl

module _ (waiting : List (List ℕ)) (from_sender from_receiver : List OwnedPacket) where
  -- once the receiver is down, the queue moves on to what it is in doubt after the crash
  abbrev Forgets : SenderMode → ReceiverMode → List (List ℕ) → Type 0
  Forgets mode at untaken =
      Moves (set_down (view_of mode waiting at from_sender from_receiver untaken) Receiver true) []
      (view_of mode waiting receiving.Down from_sender from_receiver untaken)

  -- what the sender sends may still be lost
  forgets_sent : (untaken : List (List ℕ)) (id x : ℕ) (b : Batch) (n : Payload) → eqb id x ≡ true → untaken ≡ messages b
      → Forgets (sending.Send x n) (receiving.Rcvd id b) untaken
  forgets_sent untaken id x b n same is =
      subst (λ (u : List (List ℕ)). Forgets (sending.Send x n) (receiving.Rcvd id b) u) (sym is)
      (moves-to
      (marks (set_down (view_of (sending.Send x n) waiting (receiving.Rcvd id b) from_sender from_receiver (messages b)) Receiver true)
      (entries true (messages b) ++ entries false waiting)
      (is_known_in_doubt (sending.Send x n) waiting (messages b) receiving.Down) (or_down (sender.is_down (sending.Send x n)))
      (rw same (same-append (entries false (messages b)) (entries false waiting) (entries true (messages b)) (entries false waiting)
      (entries_same false true (messages b)) (same-refl (entries false waiting)))))
      (state-eq _ _ refl refl refl refl refl))

  -- what the receiver held for a sender that forgot it is lost, and what the sender sends is in doubt
  forgets : (mode : SenderMode) (at : ReceiverMode) (untaken : List (List ℕ)) → IsListed mode at → Forgets mode at untaken
  forgets mode at untaken is =
      let v = view_of mode waiting at from_sender from_receiver untaken in
      let group = doubt_all (received mode at from_sender) in
      let later = current mode receiving.Down from_receiver untaken ++ entries false waiting in
      let doubted = is_known_in_doubt mode waiting untaken receiving.Down in
      quietly_then
      (marks (set_down v Receiver true) (group ++ later) doubted (or_down (sender.is_down mode))
      (same-append _ _ _ _ (doubt_all-same (received mode at from_sender))
      (same-append _ _ _ _ (same_current mode is) (same-refl (entries false waiting)))))
      (moves-to
      (leaves (record v { entries = group ++ later; status_doubted = doubted; receiver_down = true }) [] group later
      (doubt_all-doubted (received mode at from_sender)) refl).moves
      (state-eq _ _ refl
      (stays_known_without mode waiting receiving.Down from_receiver untaken group (listed mode receiving.Down tt)) refl refl refl))
    where
      same_current : (mode : SenderMode) → IsListed mode at
          → SameMessages (current mode at from_receiver untaken) (current mode receiving.Down from_receiver untaken)
      same_current (sending.Quiet got) is = tt
      same_current (sending.NeedId jd load) is = entries_same _ _ (sender.messages_in load)
      same_current (sending.Send x m) is = rw is (entries_same (not (has at x)) true untaken)
      same_current sending.Down is = tt

  -- so it is in each mode
  in_mode : (mode : SenderMode) (at : ReceiverMode) (untaken : List (List ℕ)) (sender_words receiver_words : List ℕ)
      → InvariantAt mode waiting at from_sender from_receiver untaken sender_words receiver_words → Forgets mode at untaken
  in_mode (sending.Send under x) (receiving.Rcvd id m) untaken sender_words receiver_words f = elim (eqb_tells id under) [
    | inl h ↦ forgets_sent untaken id under m x h.0 (f.sender.untaken_is h.1)
    | inr h ↦ forgets (sending.Send under x) (receiving.Rcvd id m) untaken h.0
  ]
  in_mode (sending.Quiet got) (receiving.Rcvd id m) untaken sender_words receiver_words f =
      forgets (sending.Quiet got) (receiving.Rcvd id m) untaken tt
  in_mode (sending.NeedId jd x) (receiving.Rcvd id m) untaken sender_words receiver_words f =
      forgets (sending.NeedId jd x) (receiving.Rcvd id m) untaken tt
  in_mode sending.Down (receiving.Rcvd id m) untaken sender_words receiver_words f = forgets sending.Down (receiving.Rcvd id m) untaken tt
  in_mode mode receiving.Idle untaken sender_words receiver_words f = forgets mode receiving.Idle untaken (listed mode receiving.Idle tt)
  in_mode mode (receiving.Accept jd id) untaken sender_words receiver_words f =
      forgets mode (receiving.Accept jd id) untaken (listed mode (receiving.Accept jd id) tt)
  in_mode mode (receiving.Ack id) untaken sender_words receiver_words f =
      forgets mode (receiving.Ack id) untaken (listed mode (receiving.Ack id) tt)
  in_mode mode receiving.Down untaken sender_words receiver_words f = forgets mode receiving.Down untaken (listed mode receiving.Down tt)

-- a receiver of a stream with the facts crashes
pub receiver_crashes : (s : Stream) → Invariant s → Moves (set_down (view s) Receiver true) [] (view (after s Receiver act.Crash))
receiver_crashes s f =
    in_mode s.sender.state.waiting s.sender.emitted s.receiver.emitted s.sender.state.mode s.receiver.state.mode s.untaken s.sender.words
    s.receiver.words f
