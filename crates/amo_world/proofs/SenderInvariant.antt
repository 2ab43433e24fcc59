-- The invariant is kept by each row of the sender's table.
use Rattle.std.proofs.Common.{◌≡◌, ℕ, Bool, true, false, eqb, if◌then◌else◌, Option, None, IfSome, List, [], ◌∷◌, ◌++◌, length, refl, sym, ◌∙◌, subst, inl, inr, ⊎_elim}
use Rattle.std.specs.List.{Contains}
use Rattle.std.specs.Option.{option_to_list}
use Rattle.std.proofs.lemmas.Bool.Decides.{eqb_tells}
use Rattle.amo_object.specs.declared.step.End.TheVariants.{Sender}
use Rattle.amo_packet.specs.declared.packet.OwnedPacket.{OwnedPacket}
use Rattle.amo_packet.specs.declared.packet.OwnedBody.{OwnedBody}
use Rattle.amo_packet.specs.declared.packet.OwnedBody.TheVariants as packet
use Rattle.amo_core.specs.declared.act.Act.{Act}
use Rattle.amo_core.specs.declared.act.Act.TheVariants as act
use Rattle.amo_core.specs.declared.reply.Reply.TheVariants as reply
use Rattle.amo_core.specs.Row.{Row, silent}
use Rattle.amo_core.specs.Sender as sender
use Rattle.amo_core.specs.Sender.{messages_in, carrying}
use Rattle.amo_core.specs.declared.payload.Payload.{Payload}
use Rattle.amo_core.specs.declared.payload.Payload.TheVariants as payload
use Rattle.amo_core.specs.declared.sender.SenderMode.{SenderMode}
use Rattle.amo_core.specs.declared.sender.SenderMode.TheVariants.{Quiet, NeedId, Send, Down}
use Rattle.amo_core.specs.declared.receiver.ReceiverMode.{ReceiverMode}
use Rattle.amo_core.specs.declared.receiver.ReceiverMode.TheVariants as receiving
use Rattle.amo_world.specs.Stream.{Stream, after, untaken_once_sent}
use Rattle.amo_world.specs.History.{WasEmitted, IsNewWord}
use Rattle.amo_world.proofs.Lists.{contains_first, contains_other}
use Rattle.amo_world.proofs.Packets.{Any, IsAcceptFor, IsAccept, IsSend, IsAck, IsCleanup, IsPastAccept, any-contains, accepted, send_is_past, ack_is_past, cleanup_is_past, carrying_sends, carrying_only, carrying_bears, carrying_no_needuid, carrying_no_cleanup}
use Rattle.amo_world.proofs.Invariant.{PacketFacts, IsUntouched, AskingFacts, Untaken, SendingFacts, SenderFacts, InvariantAt, Invariant}

-- the facts of the packets hold once the sender emitted one more, which bears what was accepted, and the one message of its identifier
packets_more : (p : OwnedPacket) (from_sender from_receiver : List OwnedPacket) → PacketFacts from_sender from_receiver
    → ((id : ℕ) → IsPastAccept id p.body → Any (IsAccept id) from_receiver)
    → ((id : ℕ) (m n : List (List ℕ)) → IsSend id m p.body → Any (IsSend id n) (p ∷ from_sender) → m ≡ n)
    → PacketFacts (p ∷ from_sender) from_receiver
packets_more p from_sender from_receiver f named same = record {
  asked = λ jd id accept. inr (f.asked jd id accept);
  one_needuid = f.one_needuid;
  accepted_first = λ id. ⊎_elim (named id) (f.accepted_first id);
  accepted_before = f.accepted_before;
  one_message = one;
}
  where
    one : (id : ℕ) (m n : List (List ℕ)) → Any (IsSend id m) (p ∷ from_sender) → Any (IsSend id n) (p ∷ from_sender) → m ≡ n
    one id m n (inl now) other = same id m n now other
    one id m n (inr earlier) (inl now) = sym (same id n m now (inr earlier))
    one id m n (inr earlier) (inr other) = f.one_message id m n earlier other

-- a sender that asks asks on, once it emitted one packet more, which bears no identifier that was accepted for its needuid
asks_on : (p : OwnedPacket) (jd : ℕ) (at : ReceiverMode) (from_sender from_receiver : List OwnedPacket)
    → AskingFacts jd at from_sender from_receiver → ((id : ℕ) → Any (IsAcceptFor jd id) from_receiver → IsPastAccept id p.body → ⊥)
    → AskingFacts jd at (p ∷ from_sender) from_receiver
asks_on p jd at from_sender from_receiver f apart = record {
  asked = inr f.asked;
  untouched =
      λ id accept. let u =
      f.untouched id accept in record {
        sender_not_past = ⊎_elim (apart id accept) u.sender_not_past;
        receiver_not_past = u.receiver_not_past;
        not_taken = u.not_taken;
      };
}

-- a sender that sends a message sends on, once it emitted one packet more, which does not clean up its identifier
sends_on : (p : OwnedPacket) (id : ℕ) (m : List (List ℕ)) (at : ReceiverMode) (from_sender from_receiver : List OwnedPacket)
    (untaken : List (List ℕ)) → SendingFacts id m at from_sender from_receiver untaken → (IsCleanup id p.body → ⊥)
    → SendingFacts id m at (p ∷ from_sender) from_receiver untaken
sends_on p id m at from_sender from_receiver untaken f apart = record {
  was_sent = inr f.was_sent;
  no_cleanup = ⊎_elim apart f.no_cleanup;
  if_got = f.if_got;
  if_lost = f.if_lost;
  untaken_is = f.untaken_is;
}

-- what is sent under an untouched identifier is untaken
untaken_first : (id : ℕ) (m : List (List ℕ)) (at : ReceiverMode) (from_sender from_receiver : List OwnedPacket)
    → IsUntouched id at from_sender from_receiver → Untaken at id m m
untaken_first id m receiving.Idle from_sender from_receiver u = tt
untaken_first id m (receiving.Accept jd accepted) from_sender from_receiver u = λ same. refl
untaken_first id m (receiving.Rcvd under held) from_sender from_receiver u = λ same. absurd (u.not_taken same)
untaken_first id m (receiving.Ack under) from_sender from_receiver u = λ same. absurd (u.not_taken same)
untaken_first id m receiving.Down from_sender from_receiver u = tt

module _ (n : ℕ) (at : ReceiverMode) (from_sender from_receiver : List OwnedPacket) (untaken : List (List ℕ))
    (sender_words receiver_words : List ℕ) where
  -- a packet of the stream
  abbrev bears : OwnedBody → OwnedPacket
  bears body = record { stream = n; body = body }

  -- a sender in this mode, with these messages waiting
  abbrev state : SenderMode → List (List ℕ) → sender.SenderState
  state mode waiting = record { stream = n; mode = mode; waiting = waiting }

  -- the facts before an act of a sender in this mode
  abbrev Before : SenderMode → List (List ℕ) → Type 0
  Before mode waiting = InvariantAt mode waiting at from_sender from_receiver untaken sender_words receiver_words

  -- the facts after the act, of this row, which used up this word, if any
  abbrev After : SenderMode → Row sender.SenderState → Option ℕ → Type 0
  After mode row word =
      InvariantAt row.state.mode row.state.waiting at (option_to_list row.emitted ++ from_sender) from_receiver
      (untaken_once_sent mode row.state.mode untaken) (option_to_list word ++ sender_words) receiver_words

  -- the facts hold in another mode, with what is known of the sender then
  with_sender : (mode now : SenderMode) (waiting left : List (List ℕ)) → Before mode waiting
      → SenderFacts now left at from_sender from_receiver untaken → Before now left
  with_sender mode now waiting left f s =
      record { packets = f.packets; sender = s; receiver = f.receiver; needuid_words = f.needuid_words; accept_words = f.accept_words }

  -- the facts hold once the sender cleans up an identifier that was accepted, with what is known of it then
  cleans : (mode now : SenderMode) (waiting left : List (List ℕ)) (id : ℕ) → Before mode waiting → Any (IsAccept id) from_receiver
      → SenderFacts now left at (bears (packet.Cleanup id) ∷ from_sender) from_receiver untaken
      → InvariantAt now left at (bears (packet.Cleanup id) ∷ from_sender) from_receiver untaken sender_words receiver_words
  cleans mode now waiting left id f accept s = record {
    packets =
        packets_more (bears (packet.Cleanup id)) from_sender from_receiver f.packets
        (λ other same. subst (λ x. Any (IsAccept x) from_receiver) same accept) (λ other m o is. absurd is);
    sender = s;
    receiver = f.receiver;
    needuid_words = λ jd. ⊎_elim (λ is. absurd is) (f.needuid_words jd);
    accept_words = f.accept_words;
  }

  -- the facts of the packets hold once the sender sends these messages under an identifier that was accepted, under which it sent no others
  sends_more : (id : ℕ) (load : Payload) → PacketFacts from_sender from_receiver → Any (IsAccept id) from_receiver
      → ((o : List (List ℕ)) → Any (IsSend id o) from_sender → messages_in load ≡ o)
      → PacketFacts (bears (carrying id load) ∷ from_sender) from_receiver
  sends_more id load f accept one =
      packets_more (bears (carrying id load)) from_sender from_receiver f
      (λ other is. subst (λ x. Any (IsAccept x) from_receiver) (carrying_bears id load other is) accept)
      (λ other m o is. let same = carrying_only id load other m is in
      ⊎_elim (λ now. sym same.1 ∙ (carrying_only id load other o now).1)
      (λ earlier. sym same.1 ∙ one o (subst (λ x. Any (IsSend x o) from_sender) (sym same.0) earlier)))

  -- the facts hold after an act that does nothing
  nothing_keeps : (mode : SenderMode) (waiting : List (List ℕ)) → Before mode waiting
      → After mode (sender.quietly (state mode waiting)) None
  nothing_keeps (Quiet got) waiting f = f
  nothing_keeps (NeedId jd c) waiting f = f
  nothing_keeps (Send id c) waiting f = f
  nothing_keeps Down waiting f = f

  -- the facts hold whether the message of a put waits, or the sender is full
  put_either : (full : Bool) (mode : SenderMode) (waiting : List (List ℕ)) (m : List ℕ) → Before mode waiting
      → SenderFacts mode (waiting ++ m ∷ []) at from_sender from_receiver untaken
      → untaken_once_sent mode mode untaken ≡ untaken
      → After mode (if full then silent (state mode waiting) reply.Full else silent (state mode (waiting ++ m ∷ [])) reply.Ok) None
  put_either true mode waiting m f s same = rw same f
  put_either false mode waiting m f s same = rw same (with_sender mode mode waiting (waiting ++ m ∷ []) f s)

  -- the facts hold after a put
  put_keeps : (mode : SenderMode) (waiting : List (List ℕ)) (m : List ℕ) → Before mode waiting
      → After mode (sender.put (state mode waiting) mode m) None
  put_keeps (Quiet got) waiting m f = put_either (eqb (length waiting) 16) (Quiet got) waiting m f tt refl
  put_keeps (NeedId jd c) waiting m f = put_either (eqb (length waiting) 16) (NeedId jd c) waiting m f f.sender refl
  put_keeps (Send id c) waiting m f = put_either (eqb (length waiting) 16) (Send id c) waiting m f f.sender refl
  put_keeps Down waiting m f = f

  -- the facts hold after the client asks what is known of its last message
  get_ack_keeps : (mode : SenderMode) (waiting : List (List ℕ)) → Before mode waiting
      → After mode (sender.get_ack (state mode waiting) mode waiting) None
  get_ack_keeps (Quiet true) [] f = f
  get_ack_keeps (Quiet true) (m ∷ waiting) f = f
  get_ack_keeps (Quiet false) [] f = f
  get_ack_keeps (Quiet false) (m ∷ waiting) f = f
  get_ack_keeps (NeedId jd c) waiting f = f
  get_ack_keeps (Send id c) waiting f = f
  get_ack_keeps Down waiting f = f

  -- the facts hold once a sender at rest asks under a new word, for which nothing was accepted
  starts : (got : Bool) (waiting left : List (List ℕ)) (load : Payload) (word : ℕ) → Before (Quiet got) waiting → ¬ (Contains sender_words word)
      → InvariantAt (NeedId word load) left at (bears (packet.NeedUid word) ∷ from_sender) from_receiver untaken
      (word ∷ sender_words) receiver_words
  starts got waiting left load word f new = record {
    packets = packets_more (bears (packet.NeedUid word)) from_sender from_receiver f.packets (λ id is. absurd is) (λ id c o is. absurd is);
    sender = record { asked = inl refl; untouched = λ id accept. absurd (new (f.needuid_words word (f.packets.asked word id accept))) };
    receiver = f.receiver;
    needuid_words =
        λ jd. ⊎_elim (λ same. subst (Contains (word ∷ sender_words)) same (contains_first word sender_words))
        (λ earlier. contains_other word sender_words jd (f.needuid_words jd earlier));
    accept_words = f.accept_words;
  }

  -- the facts hold after a start
  start_keeps : (mode : SenderMode) (waiting : List (List ℕ)) (word : ℕ) → Before mode waiting
      → IfSome (sender.used_word (state mode waiting) (act.Start word)) (λ w. ¬ (Contains sender_words w))
      → After mode (sender.start (state mode waiting) mode waiting word) (sender.used_word (state mode waiting) (act.Start word))
  start_keeps (Quiet got) [] word f new = f
  start_keeps (Quiet got) (m ∷ waiting) word f new = starts got (m ∷ waiting) waiting (payload.Message m) word f new
  start_keeps (NeedId jd c) waiting word f new = f
  start_keeps (Send id c) waiting word f new = f
  start_keeps Down waiting word f new = f

  -- the facts hold after a start of a batch
  batch_keeps : (mode : SenderMode) (waiting : List (List ℕ)) (word : ℕ) → Before mode waiting
      → IfSome (sender.used_word (state mode waiting) (act.Batch word)) (λ w. ¬ (Contains sender_words w))
      → After mode (sender.start_batch (state mode waiting) mode waiting word) (sender.used_word (state mode waiting) (act.Batch word))
  batch_keeps (Quiet got) [] word f new = f
  batch_keeps (Quiet got) (m ∷ waiting) word f new = starts got (m ∷ waiting) _ _ word f new
  batch_keeps (NeedId jd c) waiting word f new = f
  batch_keeps (Send id c) waiting word f new = f
  batch_keeps Down waiting word f new = f

  -- the facts hold after a resend
  resend_keeps : (mode : SenderMode) (waiting : List (List ℕ)) → Before mode waiting
      → After mode (sender.resend (state mode waiting) mode) None
  resend_keeps (Quiet got) waiting f = f
  resend_keeps (NeedId jd c) waiting f = record {
    packets = packets_more (bears (packet.NeedUid jd)) from_sender from_receiver f.packets (λ id is. absurd is) (λ id m o is. absurd is);
    sender = asks_on (bears (packet.NeedUid jd)) jd at from_sender from_receiver f.sender (λ id accept is. is);
    receiver = f.receiver;
    needuid_words =
        λ other. ⊎_elim (λ same. subst (Contains sender_words) same (f.needuid_words jd f.sender.asked)) (f.needuid_words other);
    accept_words = f.accept_words;
  }
  resend_keeps (Send id c) waiting f = record {
    packets = sends_more id c f.packets (f.packets.accepted_first id (send_is_past id (messages_in c) from_sender f.sender.was_sent))
        (λ o earlier. f.packets.one_message id (messages_in c) o f.sender.was_sent earlier);
    sender =
        sends_on (bears (carrying id c)) id (messages_in c) at from_sender from_receiver untaken f.sender (carrying_no_cleanup id c id);
    receiver = f.receiver;
    needuid_words = λ jd. ⊎_elim (λ is. absurd (carrying_no_needuid id c jd is)) (f.needuid_words jd);
    accept_words = f.accept_words;
  }
  resend_keeps Down waiting f = f

  -- the facts hold once the sender sends what it asked for, under an identifier that was accepted for its needuid, which no packet used before
  takes : (jd id : ℕ) (load : Payload) (waiting : List (List ℕ)) → Before (NeedId jd load) waiting → Any (IsAcceptFor jd id) from_receiver
      → InvariantAt (Send id load) waiting at (bears (carrying id load) ∷ from_sender) from_receiver (messages_in load) sender_words receiver_words
  takes jd id load waiting f accept = let u : IsUntouched id at from_sender from_receiver = f.sender.untouched id accept in record {
    packets = sends_more id load f.packets (accepted jd id from_receiver accept)
        (λ o earlier. absurd (u.sender_not_past (send_is_past id o from_sender earlier)));
    sender = record {
      was_sent = inl (carrying_sends id load);
      no_cleanup = ⊎_elim (carrying_no_cleanup id load id) (λ earlier. u.sender_not_past (cleanup_is_past id from_sender earlier));
      if_got = λ ack. absurd (u.receiver_not_past (ack_is_past id true from_receiver ack));
      if_lost = λ ack. absurd (u.receiver_not_past (ack_is_past id false from_receiver ack));
      untaken_is = untaken_first id (messages_in load) at from_sender from_receiver u;
    };
    receiver = f.receiver;
    needuid_words = λ other. ⊎_elim (λ is. absurd (carrying_no_needuid id load other is)) (f.needuid_words other);
    accept_words = f.accept_words;
  }

  -- the facts hold after an accept comes
  accept_keeps : (mode : SenderMode) (waiting : List (List ℕ)) (jd id : ℕ) → Before mode waiting → Any (IsAcceptFor jd id) from_receiver
      → After mode (sender.accept (state mode waiting) mode jd id) None
  accept_keeps (Quiet got) waiting jd id f accept =
      cleans (Quiet got) (Quiet got) waiting waiting id f (accepted jd id from_receiver accept) tt
  accept_keeps (NeedId wanted m) waiting jd id f accept = elim (eqb_tells wanted jd) [
    | inl h ↦ rw h.0 (takes wanted id m waiting f (subst (λ x. Any (IsAcceptFor x id) from_receiver) (sym h.1) accept))
    | inr h ↦ rw h.0 (cleans (NeedId wanted m) (NeedId wanted m) waiting waiting id f (accepted jd id from_receiver accept)
        (asks_on (bears (packet.Cleanup id)) wanted at from_sender from_receiver f.sender
        (λ other untouched same. h.1
        (f.packets.one_needuid wanted jd other untouched (subst (λ x. Any (IsAcceptFor jd x) from_receiver) same accept)))))
  ]
  accept_keeps (Send under m) waiting jd id f accept = elim (eqb_tells under id) [
    | inl h ↦ rw h.0 f
    | inr h ↦
        rw h.0 (cleans (Send under m) (Send under m) waiting waiting id f (accepted jd id from_receiver accept)
        (sends_on (bears (packet.Cleanup id)) under (messages_in m) at from_sender from_receiver untaken f.sender (λ same. h.1 (sym same))))
  ]
  accept_keeps Down waiting jd id f accept = f

  -- the facts hold after an ack comes
  ack_keeps : (mode : SenderMode) (waiting : List (List ℕ)) (id : ℕ) (got : Bool) → Before mode waiting → Any (IsAck id got) from_receiver
      → After mode (sender.ack (state mode waiting) mode id got) None
  ack_keeps (Quiet was) waiting id true f ack =
      cleans (Quiet was) (Quiet was) waiting waiting id f (f.packets.accepted_before id (ack_is_past id true from_receiver ack)) tt
  ack_keeps (Quiet was) waiting id false f ack = f
  ack_keeps (NeedId jd m) waiting id true f ack =
      cleans (NeedId jd m) (NeedId jd m) waiting waiting id f (f.packets.accepted_before id (ack_is_past id true from_receiver ack))
      (asks_on (bears (packet.Cleanup id)) jd at from_sender from_receiver f.sender
      (λ other accept same. (f.sender.untouched other accept).receiver_not_past
      (ack_is_past other true from_receiver (subst (λ x. Any (IsAck x true) from_receiver) same ack))))
  ack_keeps (NeedId jd m) waiting id false f ack = f
  ack_keeps (Send under m) waiting id true f ack = elim (eqb_tells under id) [
    | inl h ↦
        rw h.0 (cleans (Send under m) (Quiet true) waiting waiting id f
        (f.packets.accepted_before id (ack_is_past id true from_receiver ack)) tt)
    | inr h ↦
        rw h.0 (cleans (Send under m) (Send under m) waiting waiting id f
        (f.packets.accepted_before id (ack_is_past id true from_receiver ack))
        (sends_on (bears (packet.Cleanup id)) under (messages_in m) at from_sender from_receiver untaken f.sender (λ same. h.1 (sym same))))
  ]
  ack_keeps (Send under m) waiting id false f ack = elim (eqb_tells under id) [
    | inl h ↦ rw h.0 (with_sender (Send under m) (Quiet false) waiting waiting f tt)
    | inr h ↦ rw h.0 f
  ]
  ack_keeps Down waiting id got f ack = f

  -- the facts hold after a packet comes, if all that holds of it holds of one that the receiver emitted
  deliver_keeps : (mode : SenderMode) (waiting : List (List ℕ)) (body : OwnedBody) → Before mode waiting
      → ((P : OwnedBody → Type 0) → P body → Any P from_receiver)
      → After mode (sender.deliver (state mode waiting) body) None
  deliver_keeps mode waiting (packet.NeedUid jd) f said = nothing_keeps mode waiting f
  deliver_keeps mode waiting (packet.Accept jd id) f said = accept_keeps mode waiting jd id f (said (IsAcceptFor jd id) (refl, refl))
  deliver_keeps mode waiting (packet.Send id m) f said = nothing_keeps mode waiting f
  deliver_keeps mode waiting (packet.Ack id got) f said = ack_keeps mode waiting id got f (said (IsAck id got) (refl, refl))
  deliver_keeps mode waiting (packet.Cleanup id) f said = nothing_keeps mode waiting f
  deliver_keeps mode waiting (packet.Batch id b) f said = nothing_keeps mode waiting f

  -- the facts hold after the host crashes
  crash_keeps : (mode : SenderMode) (waiting : List (List ℕ)) → Before mode waiting → After mode (sender.quietly (state Down [])) None
  crash_keeps (Quiet got) waiting f = with_sender (Quiet got) Down waiting [] f refl
  crash_keeps (NeedId jd c) waiting f = with_sender (NeedId jd c) Down waiting [] f refl
  crash_keeps (Send id c) waiting f = with_sender (Send id c) Down waiting [] f refl
  crash_keeps Down waiting f = with_sender Down Down waiting [] f refl

  -- the facts hold after the host recovers
  recover_keeps : (mode : SenderMode) (waiting : List (List ℕ)) → Before mode waiting
      → After mode (sender.recover (state mode waiting) mode) None
  recover_keeps (Quiet got) waiting f = f
  recover_keeps (NeedId jd c) waiting f = f
  recover_keeps (Send id c) waiting f = f
  recover_keeps Down waiting f = with_sender Down (Quiet false) waiting [] f tt

  -- a packet that comes was emitted by the receiver
  abbrev CameFromOther : Act → Type 0
  CameFromOther (act.Deliver p word) = Contains from_receiver p
  CameFromOther _ = Unit {0}

  -- the facts hold after each row of the table
  row_keeps : (mode : SenderMode) (waiting : List (List ℕ)) (a : Act) → Before mode waiting → CameFromOther a
      → IfSome (sender.used_word (state mode waiting) a) (λ word. ¬ (Contains sender_words word))
      → After mode (sender.row (state mode waiting) a) (sender.used_word (state mode waiting) a)
  row_keeps mode waiting (act.Put m) f came new = put_keeps mode waiting m f
  row_keeps mode waiting act.Get f came new = nothing_keeps mode waiting f
  row_keeps mode waiting act.Ack f came new = get_ack_keeps mode waiting f
  row_keeps mode waiting (act.Start word) f came new = start_keeps mode waiting word f new
  row_keeps mode waiting (act.Batch word) f came new = batch_keeps mode waiting word f new
  row_keeps mode waiting act.Resend f came new = resend_keeps mode waiting f
  row_keeps mode waiting (act.Deliver p word) f came new =
      deliver_keeps mode waiting p.body f (λ P is. any-contains P from_receiver p came is)
  row_keeps mode waiting act.Crash f came new = crash_keeps mode waiting f
  row_keeps mode waiting act.Recover f came new = recover_keeps mode waiting f

-- the facts of a stream hold after each act of its sender that is honest and fresh
pub sender_keeps : (s : Stream) (a : Act) → Invariant s → WasEmitted s Sender a → IsNewWord s Sender a → Invariant (after s Sender a)
sender_keeps s a f emitted new =
    row_keeps s.sender.state.stream s.receiver.state.mode s.sender.emitted s.receiver.emitted s.untaken s.sender.words s.receiver.words
    s.sender.state.mode s.sender.state.waiting a f emitted new
