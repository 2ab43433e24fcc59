-- Forward simulation, of a receiver: each row of its table but the crash moves the queue in doubt, with no mark set.
use Rattle.std.proofs.Common.{◌≡◌, ◌≢◌, ℕ, true, false, eqb, Some, List, [], ◌∷◌, ◌++◌, inl, inr, refl, sym, ◌∙◌, ap, subst}
use Rattle.std.specs.Prelude.{IfSome}
use Rattle.std.specs.List.{Contains}
use Rattle.std.specs.Option.{option_to_list}
use Rattle.std.proofs.lemmas.Bool.Decides.{eqb_tells}
use Rattle.amo_object.specs.declared.step.End.TheVariants.{Receiver}
use Rattle.amo_object.specs.declared.step.Step.{Step}
use Rattle.amo_object.specs.declared.step.Step.TheVariants as step
use Rattle.amo_packet.specs.declared.packet.OwnedPacket.{OwnedPacket}
use Rattle.amo_packet.specs.declared.packet.OwnedBody.{OwnedBody}
use Rattle.amo_packet.specs.declared.packet.OwnedBody.TheVariants as packet
use Rattle.amo_packet.specs.Batch.{Batch, batch, alone, messages}
use Rattle.amo_core.specs.declared.act.Act.{Act}
use Rattle.amo_core.specs.declared.act.Act.TheVariants as act
use Rattle.amo_core.specs.declared.reply.Reply.{Reply}
use Rattle.amo_core.specs.declared.reply.Reply.TheVariants as reply
use Rattle.amo_core.specs.declared.sender.SenderMode.{SenderMode}
use Rattle.amo_core.specs.declared.sender.SenderMode.TheVariants as sending
use Rattle.amo_core.specs.declared.receiver.ReceiverMode.{ReceiverMode}
use Rattle.amo_core.specs.declared.receiver.ReceiverMode.TheVariants as receiving
use Rattle.amo_core.specs.Row.{Row}
use Rattle.amo_core.specs.Receiver as receiver
use Rattle.amo_core.specs.Sender.{messages_in}
use Rattle.amo_world.specs.Stream.{Stream, after, reply_of, untaken_once_got}
use Rattle.amo_world.specs.History.{WasEmitted, IsNewWord}
use Rattle.amo_world.specs.Served.{call_of}
use Rattle.amo_world.specs.Doubt.{DoubtState, MovesUnmarking}
use Rattle.amo_world.specs.View.{carried, view_of, view}
use Rattle.amo_world.proofs.Unmarking.{stays, calls, moves-to}
use Rattle.amo_world.proofs.Untaken.{TakesNothing, untaken_unless_got}
use Rattle.amo_world.proofs.Packets.{Any, IsSend, IsCleanup, IsPastAccept, any-contains, cleanup_is_past}
use Rattle.amo_world.proofs.Invariant.{InvariantAt, Invariant}
use Rattle.amo_world.proofs.Views.{carried_is}
use Rattle.amo_world.proofs.ReceiverMoves.{IsAwayFrom, accepts_again, acks_with, accepts_first, takes_forgotten, takes_sent, forgets_accept, forgets_given, gives_away, gives_sent, rises}

module _ (n : ℕ) (mode : SenderMode) (waiting : List (List ℕ)) (from_sender from_receiver : List OwnedPacket) (untaken : List (List ℕ))
    (sender_words receiver_words : List ℕ) where
  -- the view, with these modes
  abbrev At : SenderMode → ReceiverMode → DoubtState
  At mode at = view_of mode waiting at from_sender from_receiver untaken

  -- the invariant, with these modes
  abbrev Before : SenderMode → ReceiverMode → Type 0
  Before mode at = InvariantAt mode waiting at from_sender from_receiver untaken sender_words receiver_words

  -- a row moves the queue in doubt by these steps, and leaves this untaken
  abbrev Goes : ReceiverMode → Row receiver.ReceiverState → List (List ℕ) → List Step → Type 0
  Goes at row left steps =
      MovesUnmarking (At mode at) steps (view_of mode waiting row.state.mode from_sender (option_to_list row.emitted ++ from_receiver) left)

  -- a batch is delivered under the identifier that is accepted
  takes : (jd id : ℕ) (b : Batch) → Before mode (receiving.Accept jd id) → Any (IsSend id (messages b)) from_sender
      → MovesUnmarking (At mode (receiving.Accept jd id)) [] (At mode (receiving.Rcvd id b))
  takes jd id b f a = by_mode mode f
    where
      carries : (mode : SenderMode) → Before mode (receiving.Accept jd id) → carried from_sender id ≡ messages b
      carries mode f = carried_is from_sender id (messages b) a (λ y c. f.packets.one_message id y (messages b) c a)

      by_mode : (mode : SenderMode) → Before mode (receiving.Accept jd id) → MovesUnmarking (At mode (receiving.Accept jd id)) []
          (At mode (receiving.Rcvd id b))
      by_mode (sending.Quiet got) f =
          takes_forgotten (sending.Quiet got) waiting from_sender from_receiver untaken jd id b refl (carries (sending.Quiet got) f)
      by_mode (sending.NeedId asked x) f =
          takes_forgotten (sending.NeedId asked x) waiting from_sender from_receiver untaken jd id b refl (carries (sending.NeedId asked x) f)
      by_mode sending.Down f =
          takes_forgotten sending.Down waiting from_sender from_receiver untaken jd id b refl (carries sending.Down f)
      by_mode (sending.Send under x) f = elim (eqb_tells under id) [
        | inl k ↦
            takes_sent waiting from_sender from_receiver untaken jd id under x b k.0
            (f.sender.untaken_is (sym k.1)
            ∙ f.packets.one_message under (messages_in x) (messages b) f.sender.was_sent
            (subst (λ (y : ℕ). Any (IsSend y (messages b)) from_sender) (sym k.1) a))
        | inr k ↦
            takes_forgotten (sending.Send under x) waiting from_sender from_receiver untaken jd id b k.0 (carries (sending.Send under x) f)
      ]

  -- what is cleaned up the sender does not want any more
  away : (at : ReceiverMode) (id : ℕ) → Before mode at → Any (IsCleanup id) from_sender → IsAwayFrom id mode from_receiver
  away at id f c = by_mode mode f
    where
      by_mode : (mode : SenderMode) → Before mode at → IsAwayFrom id mode from_receiver
      by_mode (sending.Quiet got) f = tt
      by_mode (sending.NeedId asked m) f = λ x o. elim (eqb_tells id x) [
        | inl k ↦
            absurd ((f.sender.untouched x o).sender_not_past
            (subst (λ (y : ℕ). Any (IsPastAccept y) from_sender) k.1 (cleanup_is_past id from_sender c)))
        | inr k ↦ k.0
      ]
      by_mode (sending.Send under m) f = elim (eqb_tells under id) [
        | inl k ↦ absurd (f.sender.no_cleanup (subst (λ (y : ℕ). Any (IsCleanup y) from_sender) (sym k.1) c))
        | inr k ↦ k.0
      ]
      by_mode sending.Down f = tt

  -- a needuid is delivered
  needuid_row : (at : ReceiverMode) (jd word : ℕ) → Before mode at
      → IfSome (receiver.accepted_word at (packet.NeedUid jd) word) (λ w. ¬ (Contains receiver_words w))
      → Goes at (receiver.needuid (record { stream = n; mode = at }) at jd word) untaken []
  needuid_row receiving.Idle jd word f fresh =
      accepts_first mode waiting from_sender from_receiver untaken n jd word
      (λ named. fresh (f.accept_words word (f.packets.accepted_first word named)))
  needuid_row (receiving.Accept asked id) jd word f fresh = elim (eqb_tells asked jd) [
    | inl h ↦ rw h.0
        (subst
        (λ (j : ℕ). MovesUnmarking (At mode (receiving.Accept asked id)) []
        (view_of mode waiting (receiving.Accept asked id) from_sender
        (record { stream = n; body = packet.Accept j id } ∷ from_receiver) untaken))
        h.1
        (accepts_again mode waiting from_sender from_receiver untaken n asked id))
    | inr h ↦ rw h.0 (stays _)
  ]
  needuid_row (receiving.Rcvd id m) jd word f fresh = stays _
  needuid_row (receiving.Ack id) jd word f fresh = stays _
  needuid_row receiving.Down jd word f fresh = stays _

  -- a batch is delivered, and so is a send
  batch_row : (at : ReceiverMode) (id : ℕ) (b : Batch) → Before mode at → Any (IsSend id (messages b)) from_sender
      → Goes at (receiver.batch (record { stream = n; mode = at }) at id b) untaken []
  batch_row receiving.Idle id b f a = acks_with mode waiting from_sender from_receiver untaken receiving.Idle n id false
  batch_row (receiving.Accept jd accepted) id b f a = elim (eqb_tells accepted id) [
    | inl h ↦ rw h.0
        (subst (λ (x : ℕ). MovesUnmarking (At mode (receiving.Accept jd x)) [] (At mode (receiving.Rcvd id b))) (sym h.1)
        (takes jd id b
        (subst (λ (x : ℕ). Before mode (receiving.Accept jd x)) h.1 f) a))
    | inr h ↦ rw h.0 (acks_with mode waiting from_sender from_receiver untaken (receiving.Accept jd accepted) n id false)
  ]
  batch_row (receiving.Rcvd under held) id b f a = elim (eqb_tells under id) [
    | inl h ↦ rw h.0 (stays _)
    | inr h ↦ rw h.0 (acks_with mode waiting from_sender from_receiver untaken (receiving.Rcvd under held) n id false)
  ]
  batch_row (receiving.Ack under) id b f a =
      acks_with mode waiting from_sender from_receiver untaken (receiving.Ack under) n id (eqb under id)
  batch_row receiving.Down id b f a = stays _

  -- a cleanup is delivered
  cleanup_row : (at : ReceiverMode) (id : ℕ) → Before mode at → Any (IsCleanup id) from_sender
      → Goes at (receiver.cleanup (record { stream = n; mode = at }) at id) untaken []
  cleanup_row receiving.Idle id f c = stays _
  cleanup_row (receiving.Accept jd accepted) id f c = elim (eqb_tells accepted id) [
    | inl h ↦
        let here : Any (IsCleanup accepted) from_sender = subst (λ (x : ℕ). Any (IsCleanup x) from_sender) (sym h.1) c in
        rw h.0 (forgets_accept mode waiting from_sender from_receiver untaken jd accepted
        (away (receiving.Accept jd accepted) accepted f here))
    | inr h ↦ rw h.0 (stays _)
  ]
  cleanup_row (receiving.Rcvd under m) id f c = stays _
  cleanup_row (receiving.Ack under) id f c = elim (eqb_tells under id) [
    | inl h ↦
        let here : Any (IsCleanup under) from_sender = subst (λ (x : ℕ). Any (IsCleanup x) from_sender) (sym h.1) c in
        rw h.0 (forgets_given mode waiting from_sender from_receiver untaken under (away (receiving.Ack under) under f here))
    | inr h ↦ rw h.0 (stays _)
  ]
  cleanup_row receiving.Down id f c = stays _

  -- a packet that the sender emitted is delivered
  deliver_row : (at : ReceiverMode) (body : OwnedBody) (word : ℕ) → Before mode at
      → ((P : OwnedBody → Type 0) → P body → Any P from_sender)
      → IfSome (receiver.accepted_word at body word) (λ w. ¬ (Contains receiver_words w))
      → Goes at (receiver.deliver (record { stream = n; mode = at }) body word) untaken []
  deliver_row at (packet.NeedUid jd) word f said fresh = needuid_row at jd word f fresh
  deliver_row at (packet.Accept jd id) word f said fresh = stays _
  deliver_row at (packet.Send id m) word f said fresh = batch_row at id (alone m) f (said (IsSend id (m ∷ [])) (refl, refl))
  deliver_row at (packet.Batch id b) word f said fresh = batch_row at id b f (said (IsSend id (messages b)) (refl, refl))
  deliver_row at (packet.Ack id got) word f said fresh = stays _
  deliver_row at (packet.Cleanup id) word f said fresh = cleanup_row at id f (said (IsCleanup id) refl)

  -- the packet of the mode is emitted again
  resend_row : (at : ReceiverMode) → Goes at (receiver.resend (record { stream = n; mode = at }) at) untaken []
  resend_row receiving.Idle = stays _
  resend_row (receiving.Accept jd id) = accepts_again mode waiting from_sender from_receiver untaken n jd id
  resend_row (receiving.Rcvd id m) = stays _
  resend_row (receiving.Ack id) = acks_with mode waiting from_sender from_receiver untaken (receiving.Ack id) n id true
  resend_row receiving.Down = stays _

  -- the client asks for a message: there is none
  gets_none : (at : ReceiverMode) (given r : Reply) (steps : List Step) → TakesNothing act.Get at → Some given ≡ Some r
      → option_to_list (call_of Receiver act.Get given) ≡ steps → MovesUnmarking (At mode at) steps (At mode at)
      → MovesUnmarking (At mode at) (option_to_list (call_of Receiver act.Get r))
      (view_of mode waiting at from_sender from_receiver (untaken_once_got act.Get mode at untaken))
  gets_none at given r steps h is called m =
      let same : given ≡ r = cc in
      subst
      (λ (x : Reply). MovesUnmarking (At mode at)
      (option_to_list (call_of Receiver act.Get x))
      (view_of mode waiting at from_sender from_receiver (untaken_once_got act.Get mode at untaken)))
      same
      (rw (called, untaken_unless_got mode at act.Get untaken h) m)

  -- or there is one
  gets : (id : ℕ) (m : List ℕ) (rest : List (List ℕ)) → Before mode (receiving.Rcvd id (batch m rest))
      → MovesUnmarking (At mode (receiving.Rcvd id (batch m rest))) (step.Get m ∷ [])
      (view_of mode waiting (receiver.with_rest id rest) from_sender from_receiver
      (untaken_once_got act.Get mode (receiving.Rcvd id (batch m rest)) untaken))
  gets id m rest f = by_mode mode f
    where
      by_mode : (mode : SenderMode) → Before mode (receiving.Rcvd id (batch m rest))
          → MovesUnmarking (At mode (receiving.Rcvd id (batch m rest))) (step.Get m ∷ [])
          (view_of mode waiting (receiver.with_rest id rest) from_sender from_receiver
          (untaken_once_got act.Get mode (receiving.Rcvd id (batch m rest)) untaken))
      by_mode (sending.Quiet got) f = gives_away (sending.Quiet got) waiting from_sender from_receiver untaken id m rest tt
      by_mode (sending.NeedId jd x) f = gives_away (sending.NeedId jd x) waiting from_sender from_receiver untaken id m rest tt
      by_mode (sending.Send under x) f = elim (eqb_tells id under) [
        | inl h ↦
            let given =
            gives_sent waiting from_sender from_receiver untaken id under m rest x h.0 (f.sender.untaken_is h.1) in rw h.0 (rw h.0 at given)
        | inr h ↦
            let given = gives_away (sending.Send under x) waiting from_sender from_receiver untaken id m rest h.0 in rw h.0 (rw h.0 at given)
      ]
      by_mode sending.Down f = gives_away sending.Down waiting from_sender from_receiver untaken id m rest tt

  get_row : (at : ReceiverMode) (r : Reply) → Before mode at → (receiver.get (record { stream = n; mode = at }) at).reply ≡ Some r
      → Goes at (receiver.get (record { stream = n; mode = at }) at)
      (untaken_once_got act.Get mode at untaken) (option_to_list (call_of Receiver act.Get r))
  get_row receiving.Idle r f is = gets_none receiving.Idle reply.Nothing r [] tt is refl (stays _)
  get_row (receiving.Accept jd id) r f is = gets_none (receiving.Accept jd id) reply.Nothing r [] tt is refl (stays _)
  get_row (receiving.Rcvd id b) r f is =
      let same : reply.Got b.first ≡ r = cc in
      subst
      (λ (x : Reply). MovesUnmarking (At mode (receiving.Rcvd id b))
      (option_to_list (call_of Receiver act.Get x))
      (view_of mode waiting (receiver.with_rest id b.rest) from_sender from_receiver
      (untaken_once_got act.Get mode (receiving.Rcvd id b) untaken)))
      same
      (gets id b.first b.rest f)
  get_row (receiving.Ack id) r f is = gets_none (receiving.Ack id) reply.Nothing r [] tt is refl (stays _)
  get_row receiving.Down r f is =
      gets_none receiving.Down reply.Down r (step.DownReply Receiver ∷ []) tt is refl (calls _ (step.DownReply Receiver) refl)

  -- the receiver is up again
  recover_row : (at : ReceiverMode) → Goes at (receiver.recover (record { stream = n; mode = at }) at) untaken
      (step.Recover Receiver ∷ [])
  recover_row receiving.Idle = moves-to (calls _ (step.Recover Receiver) tt) refl
  recover_row (receiving.Accept jd id) = moves-to (calls _ (step.Recover Receiver) tt) refl
  recover_row (receiving.Rcvd id m) = moves-to (calls _ (step.Recover Receiver) tt) refl
  recover_row (receiving.Ack id) = moves-to (calls _ (step.Recover Receiver) tt) refl
  recover_row receiving.Down = rises mode waiting from_sender from_receiver untaken

-- each act of a receiver but a crash, of a stream with the invariant, moves the queue in doubt, with no mark set, by what its client sees
pub receiver_moves : (s : Stream) (a : Act) (r : Reply) → a ≢ act.Crash → Invariant s → WasEmitted s Receiver a → IsNewWord s Receiver a
    → reply_of s Receiver a ≡ Some r → MovesUnmarking (view s) (option_to_list (call_of Receiver a r)) (view (after s Receiver a))
receiver_moves s (act.Put m) r calm f honest fresh is = cc
receiver_moves s act.Get r calm f honest fresh is =
    get_row s.receiver.state.stream s.sender.state.mode s.sender.state.waiting s.sender.emitted s.receiver.emitted s.untaken
    s.sender.words s.receiver.words s.receiver.state.mode r f is
receiver_moves s act.Ack r calm f honest fresh is = cc
receiver_moves s (act.Start word) r calm f honest fresh is = cc
receiver_moves s (act.Batch word) r calm f honest fresh is = cc
receiver_moves s act.Resend r calm f honest fresh is =
    resend_row s.receiver.state.stream s.sender.state.mode s.sender.state.waiting s.sender.emitted s.receiver.emitted s.untaken
    s.sender.words s.receiver.words s.receiver.state.mode
receiver_moves s (act.Deliver p word) r calm f honest fresh is =
    deliver_row s.receiver.state.stream s.sender.state.mode s.sender.state.waiting s.sender.emitted s.receiver.emitted s.untaken
    s.sender.words s.receiver.words s.receiver.state.mode p.body word f
    (λ P says. any-contains P s.sender.emitted p honest says) fresh
receiver_moves s act.Crash r calm f honest fresh is = absurd (calm refl)
receiver_moves s act.Recover r calm f honest fresh is =
    recover_row s.receiver.state.stream s.sender.state.mode s.sender.state.waiting s.sender.emitted s.receiver.emitted s.untaken
    s.sender.words s.receiver.words s.receiver.state.mode
