-- Keys. A key tells a packet from the others that its side emitted, in each history that is honest and fresh; and the words that a side
-- used up are those whose keys its packets have.
use Rattle.std.proofs.Common.{◌≡◌, ℕ, ◌==◌, Bool, true, false, eqb, if◌then◌else◌, Option, None, Some, List, [], ◌∷◌, ◌++◌, length, inl, inr, refl, sym, ◌∙◌, ap, subst}
use Rattle.std.specs.List.{Contains}
use Rattle.std.specs.Option.{IfSome, option_to_list, option_map, unwrap_or}
use Rattle.std.proofs.lemmas.Bool.{eq-eqb}
use Rattle.amo_object.specs.declared.step.End.{End}
use Rattle.amo_object.specs.declared.step.End.TheVariants.{Sender, Receiver}
use Rattle.amo_packet.specs.declared.packet.OwnedPacket.{OwnedPacket}
use Rattle.amo_packet.specs.declared.packet.OwnedBody.{OwnedBody}
use Rattle.amo_packet.specs.declared.packet.OwnedBody.TheVariants as packet
use Rattle.amo_packet.specs.Batch.{Batch, alone, messages, batch_from}
use Rattle.amo_core.specs.declared.payload.Payload.{Payload}
use Rattle.amo_core.specs.declared.payload.Payload.TheVariants as payload
use Rattle.amo_core.specs.declared.act.Act.{Act}
use Rattle.amo_core.specs.declared.act.Act.TheVariants as act
use Rattle.amo_core.specs.declared.sender.SenderMode.{SenderMode}
use Rattle.amo_core.specs.declared.sender.SenderMode.TheVariants as sending
use Rattle.amo_core.specs.declared.receiver.ReceiverMode.{ReceiverMode}
use Rattle.amo_core.specs.declared.receiver.ReceiverMode.TheVariants as receiving
use Rattle.amo_core.specs.declared.reply.Reply.TheVariants.{Done}
use Rattle.amo_core.specs.declared.reply.Reply.TheVariants as reply
use Rattle.amo_core.specs.Row.{Row, silent}
use Rattle.amo_core.specs.Sender as sender
use Rattle.amo_core.specs.Receiver as receiver
use Rattle.amo_world.specs.declared.event.Event.{Event}
use Rattle.amo_world.specs.declared.key.Key.{Key}
use Rattle.amo_world.specs.declared.key.PacketKind.TheVariants.{NeedUid, Accept}
use Rattle.amo_world.specs.Key.{key, key_of, key_of_word}
use Rattle.amo_world.specs.Stream.{Stream, after, word_of, emission_of, emitted_by, words_of}
use Rattle.amo_world.specs.History.{stream_after, stream_before, after_if, IsHonest, IsFresh}
use Rattle.amo_world.proofs.Lists.{contains_nothing, contains_cases, contains_first, contains_other}
use Rattle.amo_world.proofs.Packets.{IsNeeduid, IsAccept, IsAcceptFor, IsSend, any-contains}
use Rattle.amo_world.proofs.Invariant.{Invariant, PacketFacts}
use Rattle.amo_world.proofs.Emitted.{event_bears}
use Rattle.amo_world.proofs.Serving.{stream_facts}

-- what one key says

identifiers : (j k : Key) → j ≡ k → j.identifier ≡ k.identifier
identifiers j k e = ap (λ (x : Key). x.identifier) e

kinds : (j k : Key) → j ≡ k → j.kind ≡ k.kind
kinds j k e = ap (λ (x : Key). x.kind) e

-- what two packets of one key say is one, where an identifier is accepted for one needuid and the same messages are sent under it
module _ (from_sender from_receiver : List OwnedPacket) (facts : PacketFacts from_sender from_receiver) where
  one_accept : (p q : OwnedPacket) (jd asked a b : ℕ) → Contains from_receiver p → Contains from_receiver q → p.body ≡ packet.Accept jd a → q.body ≡ packet.Accept asked b
      → a ≡ b → packet.Accept jd a ≡ packet.Accept asked b
  one_accept p q jd asked a b cp cq is_p is_q same =
      let first = any-contains (IsAcceptFor jd a) from_receiver p cp (subst (IsAcceptFor jd a) (sym is_p) (refl, refl)) in
      let second = any-contains (IsAcceptFor asked a) from_receiver q cq (subst (IsAcceptFor asked a) (sym is_q) (refl, sym same)) in
      let one = facts.one_needuid jd asked a first second in
      ap (λ (x : ℕ). packet.Accept x a) one ∙ ap (λ (x : ℕ). packet.Accept asked x) same

  one_send : (p q : OwnedPacket) (a b : ℕ) (m n : List ℕ) → Contains from_sender p → Contains from_sender q → p.body ≡ packet.Send a m → q.body ≡ packet.Send b n
      → a ≡ b → packet.Send a m ≡ packet.Send b n
  one_send p q a b m n cp cq is_p is_q same =
      let first = any-contains (IsSend a (m ∷ [])) from_sender p cp (subst (IsSend a (m ∷ [])) (sym is_p) (refl, refl)) in
      let second = any-contains (IsSend a (n ∷ [])) from_sender q cq (subst (IsSend a (n ∷ [])) (sym is_q) (sym same, refl)) in
      ap (λ (x : List (List ℕ)). packet.Send a (batch_from x).first) (facts.one_message a (m ∷ []) (n ∷ []) first second) ∙ ap (λ (x : ℕ). packet.Send x n) same

  one_batch : (p q : OwnedPacket) (a b : ℕ) (m n : Batch) → Contains from_sender p → Contains from_sender q → p.body ≡ packet.Batch a m → q.body ≡ packet.Batch b n
      → a ≡ b → packet.Batch a m ≡ packet.Batch b n
  one_batch p q a b m n cp cq is_p is_q same =
      let first = any-contains (IsSend a (messages m)) from_sender p cp (subst (IsSend a (messages m)) (sym is_p) (refl, refl)) in
      let second = any-contains (IsSend a (messages n)) from_sender q cq (subst (IsSend a (messages n)) (sym is_q) (sym same, refl)) in
      ap (λ (x : List (List ℕ)). packet.Batch a (batch_from x)) (facts.one_message a (messages m) (messages n) first second)
      ∙ ap (λ (x : ℕ). packet.Batch x n) same

-- a packet that emits neither a message nor an identifier is told from others by its key alone
alike : (p q : OwnedPacket) (b c : OwnedBody) → p.body ≡ b → q.body ≡ c
    → ((jd asked a x : ℕ) → p.body ≡ packet.Accept jd a → q.body ≡ packet.Accept asked x → a ≡ x → packet.Accept jd a ≡ packet.Accept asked x)
    → ((a x : ℕ) (m n : List ℕ) → p.body ≡ packet.Send a m → q.body ≡ packet.Send x n → a ≡ x → packet.Send a m ≡ packet.Send x n)
    → ((a x : ℕ) (m n : Batch) → p.body ≡ packet.Batch a m → q.body ≡ packet.Batch x n → a ≡ x → packet.Batch a m ≡ packet.Batch x n)
    → (key_of b).identifier ≡ (key_of c).identifier → (key_of b).kind ≡ (key_of c).kind → b ≡ c
alike p q (packet.NeedUid a) (packet.NeedUid x) is_p is_q accepts sends batches same kinds = cc
alike p q (packet.NeedUid a) (packet.Accept jd x) is_p is_q accepts sends batches same kinds = absurd cc
alike p q (packet.NeedUid a) (packet.Send x n) is_p is_q accepts sends batches same kinds = absurd cc
alike p q (packet.NeedUid a) (packet.Ack x g) is_p is_q accepts sends batches same kinds = absurd cc
alike p q (packet.NeedUid a) (packet.Cleanup x) is_p is_q accepts sends batches same kinds = absurd cc
alike p q (packet.NeedUid a) (packet.Batch x n) is_p is_q accepts sends batches same kinds = absurd cc
alike p q (packet.Accept jd a) (packet.NeedUid x) is_p is_q accepts sends batches same kinds = absurd cc
alike p q (packet.Accept jd a) (packet.Accept asked x) is_p is_q accepts sends batches same kinds = accepts jd asked a x is_p is_q same
alike p q (packet.Accept jd a) (packet.Send x n) is_p is_q accepts sends batches same kinds = absurd cc
alike p q (packet.Accept jd a) (packet.Ack x g) is_p is_q accepts sends batches same kinds = absurd cc
alike p q (packet.Accept jd a) (packet.Cleanup x) is_p is_q accepts sends batches same kinds = absurd cc
alike p q (packet.Accept jd a) (packet.Batch x n) is_p is_q accepts sends batches same kinds = absurd cc
alike p q (packet.Send a m) (packet.NeedUid x) is_p is_q accepts sends batches same kinds = absurd cc
alike p q (packet.Send a m) (packet.Accept jd x) is_p is_q accepts sends batches same kinds = absurd cc
alike p q (packet.Send a m) (packet.Send x n) is_p is_q accepts sends batches same kinds = sends a x m n is_p is_q same
alike p q (packet.Send a m) (packet.Ack x g) is_p is_q accepts sends batches same kinds = absurd cc
alike p q (packet.Send a m) (packet.Cleanup x) is_p is_q accepts sends batches same kinds = absurd cc
alike p q (packet.Send a m) (packet.Batch x n) is_p is_q accepts sends batches same kinds = absurd cc
alike p q (packet.Ack a f) (packet.NeedUid x) is_p is_q accepts sends batches same kinds = absurd cc
alike p q (packet.Ack a f) (packet.Accept jd x) is_p is_q accepts sends batches same kinds = absurd cc
alike p q (packet.Ack a f) (packet.Send x n) is_p is_q accepts sends batches same kinds = absurd cc
alike p q (packet.Ack a f) (packet.Ack x g) is_p is_q accepts sends batches same kinds = cc
alike p q (packet.Ack a f) (packet.Cleanup x) is_p is_q accepts sends batches same kinds = absurd cc
alike p q (packet.Ack a f) (packet.Batch x n) is_p is_q accepts sends batches same kinds = absurd cc
alike p q (packet.Cleanup a) (packet.NeedUid x) is_p is_q accepts sends batches same kinds = absurd cc
alike p q (packet.Cleanup a) (packet.Accept jd x) is_p is_q accepts sends batches same kinds = absurd cc
alike p q (packet.Cleanup a) (packet.Send x n) is_p is_q accepts sends batches same kinds = absurd cc
alike p q (packet.Cleanup a) (packet.Ack x g) is_p is_q accepts sends batches same kinds = absurd cc
alike p q (packet.Cleanup a) (packet.Cleanup x) is_p is_q accepts sends batches same kinds = cc
alike p q (packet.Cleanup a) (packet.Batch x n) is_p is_q accepts sends batches same kinds = absurd cc
alike p q (packet.Batch a m) (packet.NeedUid x) is_p is_q accepts sends batches same kinds = absurd cc
alike p q (packet.Batch a m) (packet.Accept jd x) is_p is_q accepts sends batches same kinds = absurd cc
alike p q (packet.Batch a m) (packet.Send x n) is_p is_q accepts sends batches same kinds = absurd cc
alike p q (packet.Batch a m) (packet.Ack x g) is_p is_q accepts sends batches same kinds = absurd cc
alike p q (packet.Batch a m) (packet.Cleanup x) is_p is_q accepts sends batches same kinds = absurd cc
alike p q (packet.Batch a m) (packet.Batch x n) is_p is_q accepts sends batches same kinds = batches a x m n is_p is_q same

-- a sender emits no accept, and a receiver no send

abbrev IsOfSender : OwnedBody → Type 0
IsOfSender (packet.Accept jd id) = ⊥
IsOfSender (packet.Ack id got) = ⊥
IsOfSender _ = Unit {0}

abbrev EmitsAsSender : Row sender.SenderState → Type 0
EmitsAsSender r = IfSome r.emitted (λ p. IsOfSender p.body)

sender_either : (b : Bool) (r q : Row sender.SenderState) → EmitsAsSender r → EmitsAsSender q → EmitsAsSender (if b then r else q)
sender_either true r q x y = x
sender_either false r q x y = y

sender_put : (s : sender.SenderState) (mode : SenderMode) (m : List ℕ) → EmitsAsSender (sender.put s mode m)
sender_put s sending.Down m = tt
sender_put s (sending.Quiet got) m = sender_either (length s.waiting == 16) (silent s reply.Full) (silent (record s { waiting = s.waiting ++ m ∷ [] }) reply.Ok) tt tt
sender_put s (sending.NeedId jd c) m = sender_either (length s.waiting == 16) (silent s reply.Full) (silent (record s { waiting = s.waiting ++ m ∷ [] }) reply.Ok) tt tt
sender_put s (sending.Send id c) m = sender_either (length s.waiting == 16) (silent s reply.Full) (silent (record s { waiting = s.waiting ++ m ∷ [] }) reply.Ok) tt tt

sender_get_ack : (s : sender.SenderState) (mode : SenderMode) (w : List (List ℕ)) → EmitsAsSender (sender.get_ack s mode w)
sender_get_ack s sending.Down w = tt
sender_get_ack s (sending.Quiet true) [] = tt
sender_get_ack s (sending.Quiet false) [] = tt
sender_get_ack s (sending.Quiet true) (m ∷ w) = tt
sender_get_ack s (sending.Quiet false) (m ∷ w) = tt
sender_get_ack s (sending.NeedId jd c) w = tt
sender_get_ack s (sending.Send id c) w = tt

sender_start : (s : sender.SenderState) (mode : SenderMode) (w : List (List ℕ)) (word : ℕ) → EmitsAsSender (sender.start s mode w word)
sender_start s sending.Down w word = tt
sender_start s (sending.Quiet got) [] word = tt
sender_start s (sending.Quiet got) (m ∷ w) word = tt
sender_start s (sending.NeedId jd c) w word = tt
sender_start s (sending.Send id c) w word = tt

sender_batch : (s : sender.SenderState) (mode : SenderMode) (w : List (List ℕ)) (word : ℕ) → EmitsAsSender (sender.start_batch s mode w word)
sender_batch s sending.Down w word = tt
sender_batch s (sending.Quiet got) [] word = tt
sender_batch s (sending.Quiet got) (m ∷ w) word = tt
sender_batch s (sending.NeedId jd c) w word = tt
sender_batch s (sending.Send id c) w word = tt

carries_as_sender : (id : ℕ) (load : Payload) → IsOfSender (sender.carrying id load)
carries_as_sender id (payload.Message m) = tt
carries_as_sender id (payload.Batch b) = tt

sender_resend : (s : sender.SenderState) (mode : SenderMode) → EmitsAsSender (sender.resend s mode)
sender_resend s sending.Down = tt
sender_resend s (sending.Quiet got) = tt
sender_resend s (sending.NeedId jd c) = tt
sender_resend s (sending.Send id c) = carries_as_sender id c

sender_accept : (s : sender.SenderState) (mode : SenderMode) (jd id : ℕ) → EmitsAsSender (sender.accept s mode jd id)
sender_accept s sending.Down jd id = tt
sender_accept s (sending.Quiet got) jd id = tt
sender_accept s (sending.NeedId asked c) jd id =
    sender_either (asked == jd) (sender.emitting (record s { mode = sending.Send id c }) (sender.carrying id c)) (sender.emitting s (packet.Cleanup id))
    (carries_as_sender id c) tt
sender_accept s (sending.Send under c) jd id = sender_either (under == id) (sender.quietly s) (sender.emitting s (packet.Cleanup id)) tt tt

sender_cleaning_up : (s : sender.SenderState) (id : ℕ) (got : Bool) → EmitsAsSender (sender.cleaning_up s id got)
sender_cleaning_up s id true = tt
sender_cleaning_up s id false = tt

sender_ack : (s : sender.SenderState) (mode : SenderMode) (id : ℕ) (got : Bool) → EmitsAsSender (sender.ack s mode id got)
sender_ack s sending.Down id got = tt
sender_ack s (sending.Quiet b) id got = sender_cleaning_up s id got
sender_ack s (sending.NeedId asked c) id got = sender_cleaning_up s id got
sender_ack s (sending.Send under c) id got =
    sender_either (under == id) (sender.cleaning_up (record s { mode = sending.Quiet got }) id got) (sender.cleaning_up s id got)
    (sender_cleaning_up (record s { mode = sending.Quiet got }) id got) (sender_cleaning_up s id got)

sender_deliver : (s : sender.SenderState) (body : OwnedBody) → EmitsAsSender (sender.deliver s body)
sender_deliver s (packet.NeedUid jd) = tt
sender_deliver s (packet.Accept jd id) = sender_accept s s.mode jd id
sender_deliver s (packet.Send id m) = tt
sender_deliver s (packet.Ack id got) = sender_ack s s.mode id got
sender_deliver s (packet.Cleanup id) = tt
sender_deliver s (packet.Batch id b) = tt

sender_recover : (s : sender.SenderState) (mode : SenderMode) → EmitsAsSender (sender.recover s mode)
sender_recover s sending.Down = tt
sender_recover s (sending.Quiet got) = tt
sender_recover s (sending.NeedId jd c) = tt
sender_recover s (sending.Send id c) = tt

emits_as_sender : (s : sender.SenderState) (a : Act) → EmitsAsSender (sender.row s a)
emits_as_sender s (act.Put m) = sender_put s s.mode m
emits_as_sender s act.Get = tt
emits_as_sender s act.Ack = sender_get_ack s s.mode s.waiting
emits_as_sender s (act.Start word) = sender_start s s.mode s.waiting word
emits_as_sender s (act.Batch word) = sender_batch s s.mode s.waiting word
emits_as_sender s act.Resend = sender_resend s s.mode
emits_as_sender s (act.Deliver p word) = sender_deliver s p.body
emits_as_sender s act.Crash = tt
emits_as_sender s act.Recover = sender_recover s s.mode

abbrev IsOfReceiver : OwnedBody → Type 0
IsOfReceiver (packet.Accept jd id) = Unit {0}
IsOfReceiver (packet.Ack id got) = Unit {0}
IsOfReceiver _ = ⊥

abbrev EmitsAsReceiver : Row receiver.ReceiverState → Type 0
EmitsAsReceiver r = IfSome r.emitted (λ p. IsOfReceiver p.body)

receiver_either : (b : Bool) (r q : Row receiver.ReceiverState) → EmitsAsReceiver r → EmitsAsReceiver q → EmitsAsReceiver (if b then r else q)
receiver_either true r q x y = x
receiver_either false r q x y = y

receiver_needuid : (s : receiver.ReceiverState) (mode : ReceiverMode) (jd word : ℕ) → EmitsAsReceiver (receiver.needuid s mode jd word)
receiver_needuid s receiving.Idle jd word = tt
receiver_needuid s (receiving.Accept asked id) jd word = receiver_either (asked == jd) (receiver.emitting s (packet.Accept jd id)) (receiver.quietly s) tt tt
receiver_needuid s (receiving.Rcvd id m) jd word = tt
receiver_needuid s (receiving.Ack id) jd word = tt
receiver_needuid s receiving.Down jd word = tt

receiver_batch : (s : receiver.ReceiverState) (mode : ReceiverMode) (id : ℕ) (m : Batch) → EmitsAsReceiver (receiver.batch s mode id m)
receiver_batch s receiving.Idle id m = tt
receiver_batch s (receiving.Accept jd accepted) id m =
    receiver_either (accepted == id) (receiver.quietly (record s { mode = receiving.Rcvd id m })) (receiver.emitting s (packet.Ack id false)) tt tt
receiver_batch s (receiving.Rcvd under held) id m = receiver_either (under == id) (receiver.quietly s) (receiver.emitting s (packet.Ack id false)) tt tt
receiver_batch s (receiving.Ack under) id m = tt
receiver_batch s receiving.Down id m = tt

receiver_cleanup : (s : receiver.ReceiverState) (mode : ReceiverMode) (id : ℕ) → EmitsAsReceiver (receiver.cleanup s mode id)
receiver_cleanup s receiving.Idle id = tt
receiver_cleanup s (receiving.Accept jd accepted) id = tt
receiver_cleanup s (receiving.Rcvd under held) id = tt
receiver_cleanup s (receiving.Ack under) id = tt
receiver_cleanup s receiving.Down id = tt

receiver_deliver : (s : receiver.ReceiverState) (body : OwnedBody) (word : ℕ) → EmitsAsReceiver (receiver.deliver s body word)
receiver_deliver s (packet.NeedUid jd) word = receiver_needuid s s.mode jd word
receiver_deliver s (packet.Accept jd id) word = tt
receiver_deliver s (packet.Send id m) word = receiver_batch s s.mode id (alone m)
receiver_deliver s (packet.Batch id b) word = receiver_batch s s.mode id b
receiver_deliver s (packet.Ack id got) word = tt
receiver_deliver s (packet.Cleanup id) word = receiver_cleanup s s.mode id

receiver_get : (s : receiver.ReceiverState) (mode : ReceiverMode) → EmitsAsReceiver (receiver.get s mode)
receiver_get s receiving.Idle = tt
receiver_get s (receiving.Accept jd accepted) = tt
receiver_get s (receiving.Rcvd id m) = tt
receiver_get s (receiving.Ack id) = tt
receiver_get s receiving.Down = tt

receiver_resend : (s : receiver.ReceiverState) (mode : ReceiverMode) → EmitsAsReceiver (receiver.resend s mode)
receiver_resend s receiving.Idle = tt
receiver_resend s (receiving.Accept jd id) = tt
receiver_resend s (receiving.Rcvd id m) = tt
receiver_resend s (receiving.Ack id) = tt
receiver_resend s receiving.Down = tt

receiver_recover : (s : receiver.ReceiverState) (mode : ReceiverMode) → EmitsAsReceiver (receiver.recover s mode)
receiver_recover s receiving.Idle = tt
receiver_recover s (receiving.Accept jd id) = tt
receiver_recover s (receiving.Rcvd id m) = tt
receiver_recover s (receiving.Ack id) = tt
receiver_recover s receiving.Down = tt

emits_as_receiver : (s : receiver.ReceiverState) (a : Act) → EmitsAsReceiver (receiver.row s a)
emits_as_receiver s (act.Put m) = tt
emits_as_receiver s act.Get = receiver_get s s.mode
emits_as_receiver s act.Ack = tt
emits_as_receiver s (act.Start word) = tt
emits_as_receiver s (act.Batch word) = tt
emits_as_receiver s act.Resend = receiver_resend s s.mode
emits_as_receiver s (act.Deliver p word) = receiver_deliver s p.body word
emits_as_receiver s act.Crash = tt
emits_as_receiver s act.Recover = receiver_recover s s.mode

-- the emission of an act, where its side emitted a packet of that key before, says what that one says
pub emission_alike : (s : Stream) (side : End) (a : Act) (p q : OwnedPacket) → Invariant (after s side a) → emission_of s side a ≡ Some p → Contains (emitted_by s side) q
    → key_of q.body ≡ key_of p.body → q.body ≡ p.body
emission_alike s Sender a p q facts is c same =
    let from_sender = option_to_list (sender.row s.sender.state a).emitted ++ s.sender.emitted in
    let list : p ∷ s.sender.emitted ≡ from_sender = ap (λ (o : Option OwnedPacket). option_to_list o ++ s.sender.emitted) (sym is) in
    let now : Contains from_sender p = subst (λ (ps : List OwnedPacket). Contains ps p) list (contains_first p s.sender.emitted) in
    let before : Contains from_sender q = subst (λ (ps : List OwnedPacket). Contains ps q) list (contains_other p s.sender.emitted q c) in
    let of_sender : IsOfSender p.body = subst (λ (o : Option OwnedPacket). IfSome o (λ x. IsOfSender x.body)) is (emits_as_sender s.sender.state a) in
    alike q p q.body p.body refl refl
    (λ jd asked x y is_q is_p e. absurd (subst IsOfSender is_p of_sender))
    (λ x y m n is_q is_p e. one_send from_sender s.receiver.emitted facts.packets q p x y m n before now is_q is_p e)
    (λ x y m n is_q is_p e. one_batch from_sender s.receiver.emitted facts.packets q p x y m n before now is_q is_p e)
    (identifiers _ _ same) (kinds _ _ same)
emission_alike s Receiver a p q facts is c same =
    let from_receiver = option_to_list (receiver.row s.receiver.state a).emitted ++ s.receiver.emitted in
    let list : p ∷ s.receiver.emitted ≡ from_receiver = ap (λ (o : Option OwnedPacket). option_to_list o ++ s.receiver.emitted) (sym is) in
    let now : Contains from_receiver p = subst (λ (ps : List OwnedPacket). Contains ps p) list (contains_first p s.receiver.emitted) in
    let before : Contains from_receiver q = subst (λ (ps : List OwnedPacket). Contains ps q) list (contains_other p s.receiver.emitted q c) in
    let of_receiver : IsOfReceiver p.body = subst (λ (o : Option OwnedPacket). IfSome o (λ x. IsOfReceiver x.body)) is (emits_as_receiver s.receiver.state a) in
    alike q p q.body p.body refl refl
    (λ jd asked x y is_q is_p e. one_accept s.sender.emitted from_receiver facts.packets q p jd asked x y before now is_q is_p e)
    (λ x y m n is_q is_p e. absurd (subst IsOfReceiver is_p of_receiver))
    (λ x y m n is_q is_p e. absurd (subst IsOfReceiver is_p of_receiver))
    (identifiers _ _ same) (kinds _ _ same)

-- an act that uses up a word emits a packet with the key of that word

start_emits : (s : sender.SenderState) (mode : SenderMode) (waiting : List (List ℕ)) (word w : ℕ) → option_map (λ (p : OwnedPacket). word) (sender.start s mode waiting word).emitted ≡ Some w
    → (p : OwnedPacket) × ((sender.start s mode waiting word).emitted ≡ Some p) × (key_of p.body ≡ key NeedUid w)
start_emits s (sending.Quiet got) [] word w is = absurd cc
start_emits s (sending.Quiet got) (m ∷ rest) word w is =
    (record { stream = s.stream; body = packet.NeedUid word }, refl, ap (λ (o : Option ℕ). key NeedUid (unwrap_or o 0)) is)
start_emits s (sending.NeedId jd m) waiting word w is = absurd cc
start_emits s (sending.Send id m) waiting word w is = absurd cc
start_emits s sending.Down waiting word w is = absurd cc

batch_emits : (s : sender.SenderState) (mode : SenderMode) (waiting : List (List ℕ)) (word w : ℕ) → option_map (λ (p : OwnedPacket). word) (sender.start_batch s mode waiting word).emitted ≡ Some w
    → (p : OwnedPacket) × ((sender.start_batch s mode waiting word).emitted ≡ Some p) × (key_of p.body ≡ key NeedUid w)
batch_emits s (sending.Quiet got) [] word w is = absurd cc
batch_emits s (sending.Quiet got) (m ∷ rest) word w is =
    (record { stream = s.stream; body = packet.NeedUid word }, refl, ap (λ (o : Option ℕ). key NeedUid (unwrap_or o 0)) is)
batch_emits s (sending.NeedId jd m) waiting word w is = absurd cc
batch_emits s (sending.Send id m) waiting word w is = absurd cc
batch_emits s sending.Down waiting word w is = absurd cc

needuid_emits : (s : receiver.ReceiverState) (mode : ReceiverMode) (body : OwnedBody) (word w : ℕ) → s.mode ≡ mode → receiver.accepted_word mode body word ≡ Some w
    → (p : OwnedPacket) × ((receiver.deliver s body word).emitted ≡ Some p) × (key_of p.body ≡ key Accept w)
needuid_emits s receiving.Idle (packet.NeedUid jd) word w at is =
    (record { stream = s.stream; body = packet.Accept jd word }, ap (λ (mode : ReceiverMode). (receiver.needuid s mode jd word).emitted) at, ap (λ (o : Option ℕ). key Accept (unwrap_or o 0)) is)
needuid_emits s receiving.Idle (packet.Accept jd id) word w at is = absurd cc
needuid_emits s receiving.Idle (packet.Send id m) word w at is = absurd cc
needuid_emits s receiving.Idle (packet.Ack id got) word w at is = absurd cc
needuid_emits s receiving.Idle (packet.Cleanup id) word w at is = absurd cc
needuid_emits s receiving.Idle (packet.Batch id b) word w at is = absurd cc
needuid_emits s (receiving.Accept jd id) body word w at is = absurd cc
needuid_emits s (receiving.Rcvd id m) body word w at is = absurd cc
needuid_emits s (receiving.Ack id) body word w at is = absurd cc
needuid_emits s receiving.Down body word w at is = absurd cc

pub word_emission : (s : Stream) (side : End) (a : Act) (w : ℕ) → word_of s side a ≡ Some w
    → (p : OwnedPacket) × (emission_of s side a ≡ Some p) × (key_of p.body ≡ key_of_word side w)
word_emission s Sender (act.Put m) w is = absurd cc
word_emission s Sender act.Get w is = absurd cc
word_emission s Sender act.Ack w is = absurd cc
word_emission s Sender (act.Start word) w is = start_emits s.sender.state s.sender.state.mode s.sender.state.waiting word w is
word_emission s Sender (act.Batch word) w is = batch_emits s.sender.state s.sender.state.mode s.sender.state.waiting word w is
word_emission s Sender act.Resend w is = absurd cc
word_emission s Sender (act.Deliver p word) w is = absurd cc
word_emission s Sender act.Crash w is = absurd cc
word_emission s Sender act.Recover w is = absurd cc
word_emission s Receiver (act.Put m) w is = absurd cc
word_emission s Receiver act.Get w is = absurd cc
word_emission s Receiver act.Ack w is = absurd cc
word_emission s Receiver (act.Start word) w is = absurd cc
word_emission s Receiver (act.Batch word) w is = absurd cc
word_emission s Receiver act.Resend w is = absurd cc
word_emission s Receiver (act.Deliver p word) w is = needuid_emits s.receiver.state s.receiver.state.mode p.body word w refl is
word_emission s Receiver act.Crash w is = absurd cc
word_emission s Receiver act.Recover w is = absurd cc

-- some packet has the key of a word
abbrev pub HasWord : List OwnedPacket → End → ℕ → Type 0
HasWord emitted side w = (p : OwnedPacket) × Contains emitted p × (key_of p.body ≡ key_of_word side w)

has_more : (ps more : List OwnedPacket) (side : End) (w : ℕ) → ((p : OwnedPacket) → Contains ps p → Contains more p) → HasWord ps side w → HasWord more side w
has_more ps more side w f (p, c, is) = (p, f p c, is)

in_option : (o : Option OwnedPacket) (ps : List OwnedPacket) (p : OwnedPacket) → Contains ps p → Contains (option_to_list o ++ ps) p
in_option None ps p c = c
in_option (Some q) ps p c = contains_other q ps p c

-- the word of an act is emitted, and so is each that was used up before
module _ (side : End) (o : Option OwnedPacket) (ps : List OwnedPacket) (ws : List ℕ) (all : (w : ℕ) → Contains ws w → HasWord ps side w) where
  words_more : (word : Option ℕ) → ((w : ℕ) → word ≡ Some w → (p : OwnedPacket) × (o ≡ Some p) × (key_of p.body ≡ key_of_word side w))
      → (w : ℕ) → Contains (option_to_list word ++ ws) w → HasWord (option_to_list o ++ ps) side w
  words_more None new w c = has_more ps (option_to_list o ++ ps) side w (in_option o ps) (all w c)
  words_more (Some v) new w c = elim (contains_cases v ws w c) [
    | inl here ↦ first (new w (ap (λ (x : ℕ). Some x) here))
    | inr there ↦ has_more ps (option_to_list o ++ ps) side w (in_option o ps) (all w there)
  ]
    where
      first : (p : OwnedPacket) × (o ≡ Some p) × (key_of p.body ≡ key_of_word side w) → HasWord (option_to_list o ++ ps) side w
      first (p, is, key) = (p, subst (λ (x : Option OwnedPacket). Contains (option_to_list x ++ ps) p) (sym is) (contains_first p ps), key)

abbrev AllEmitted : Stream → Type 0
AllEmitted s = (side : End) (w : ℕ) → Contains (words_of s side) w → HasWord (emitted_by s side) side w

all_after : (s : Stream) (end : End) (a : Act) → AllEmitted s → AllEmitted (after s end a)
all_after s Sender a all Sender = words_more Sender _ s.sender.emitted s.sender.words (all Sender) (word_of s Sender a) (word_emission s Sender a)
all_after s Sender a all Receiver = all Receiver
all_after s Receiver a all Sender = all Sender
all_after s Receiver a all Receiver = words_more Receiver _ s.receiver.emitted s.receiver.words (all Receiver) (word_of s Receiver a) (word_emission s Receiver a)

all_if : (b : Bool) (s : Stream) (e : Event) → AllEmitted s → AllEmitted (after_if b s e)
all_if true s e all = all_after s e.side e.act all
all_if false s e all = all

pub words_emitted : (number : ℕ) (past : List Event) → AllEmitted (stream_after number past)
words_emitted number [] Sender w c = absurd (contains_nothing w c)
words_emitted number [] Receiver w c = absurd (contains_nothing w c)
words_emitted number (e ∷ past) side w c = all_if (eqb number e.stream) (stream_after number past) e (words_emitted number past) side w c

-- and no other words
is_needuid : (b : OwnedBody) (w : ℕ) → (key_of b).identifier ≡ w → (key_of b).kind ≡ NeedUid → IsNeeduid w b
is_needuid (packet.NeedUid jd) w same kind = same
is_needuid (packet.Accept jd id) w same kind = absurd cc
is_needuid (packet.Send id m) w same kind = absurd cc
is_needuid (packet.Ack id got) w same kind = absurd cc
is_needuid (packet.Cleanup id) w same kind = absurd cc
is_needuid (packet.Batch id b) w same kind = absurd cc

is_accept : (b : OwnedBody) (w : ℕ) → (key_of b).identifier ≡ w → (key_of b).kind ≡ Accept → IsAccept w b
is_accept (packet.NeedUid jd) w same kind = absurd cc
is_accept (packet.Accept jd id) w same kind = same
is_accept (packet.Send id m) w same kind = absurd cc
is_accept (packet.Ack id got) w same kind = absurd cc
is_accept (packet.Cleanup id) w same kind = absurd cc
is_accept (packet.Batch id b) w same kind = absurd cc

pub word_used : (s : Stream) (side : End) (w : ℕ) → Invariant s → HasWord (emitted_by s side) side w → Contains (words_of s side) w
word_used s Sender w facts (p, c, same) = facts.needuid_words w (any-contains (IsNeeduid w) s.sender.emitted p c (is_needuid p.body w (identifiers _ _ same) (kinds _ _ same)))
word_used s Receiver w facts (p, c, same) = facts.accept_words w (any-contains (IsAccept w) s.receiver.emitted p c (is_accept p.body w (identifiers _ _ same) (kinds _ _ same)))

-- what a side emitted bears the number of its stream

abbrev emission_in : End → ℕ → Act → Event
emission_in side number a = record { pass = 0; side = side; stream = number; act = a; reply = Done }

pub emission_bears : (past : List Event) (number : ℕ) (side : End) (a : Act) (p : OwnedPacket) → emission_of (stream_after number past) side a ≡ Some p → p.stream ≡ number
emission_bears past number side a p is =
    event_bears past (emission_in side number a) (record { side = side; packet = p }) (ap (option_map (λ (x : OwnedPacket). record { side = side; packet = x })) is)

abbrev AllBear : ℕ → Stream → Type 0
AllBear number s = (side : End) (p : OwnedPacket) → Contains (emitted_by s side) p → p.stream ≡ number

bears_more : (number : ℕ) (o : Option OwnedPacket) (ps : List OwnedPacket) → ((p : OwnedPacket) → Contains ps p → p.stream ≡ number) → ((p : OwnedPacket) → o ≡ Some p → p.stream ≡ number)
    → (p : OwnedPacket) → Contains (option_to_list o ++ ps) p → p.stream ≡ number
bears_more number None ps all now p c = all p c
bears_more number (Some q) ps all now p c = elim (contains_cases q ps p c) [
  | inl here ↦ now p (ap (λ (x : OwnedPacket). Some x) here)
  | inr there ↦ all p there
]

bears_after : (number : ℕ) (s : Stream) (end : End) (a : Act) → AllBear number s → ((p : OwnedPacket) → emission_of s end a ≡ Some p → p.stream ≡ number) → AllBear number (after s end a)
bears_after number s Sender a all now Sender = bears_more number _ s.sender.emitted (all Sender) now
bears_after number s Sender a all now Receiver = all Receiver
bears_after number s Receiver a all now Sender = all Sender
bears_after number s Receiver a all now Receiver = bears_more number _ s.receiver.emitted (all Receiver) now

bears_if : (b : Bool) (number : ℕ) (s : Stream) (e : Event) → AllBear number s → ((p : OwnedPacket) → emission_of s e.side e.act ≡ Some p → p.stream ≡ number) → AllBear number (after_if b s e)
bears_if true number s e all now = bears_after number s e.side e.act all now
bears_if false number s e all now = all

pub emitted_bear : (number : ℕ) (past : List Event) → AllBear number (stream_after number past)
emitted_bear number [] Sender p c = absurd (contains_nothing p c)
emitted_bear number [] Receiver p c = absurd (contains_nothing p c)
emitted_bear number (e ∷ past) side p c =
    bears_if (eqb number e.stream) number (stream_after number past) e (emitted_bear number past) (λ x is. emission_bears past number e.side e.act x is) side p c

-- the emission of an event is the packet that its side emitted before under the same key, if it emitted one
pub emission_known : (past : List Event) (e : Event) → IsHonest (e ∷ past) → IsFresh (e ∷ past) → (p q : OwnedPacket)
    → emission_of (stream_before past e) e.side e.act ≡ Some p → Contains (emitted_by (stream_before past e) e.side) q → key_of q.body ≡ key_of p.body → q ≡ p
emission_known past e honest fresh p q is c same =
    let here : eqb e.stream e.stream ≡ true = eq-eqb e.stream e.stream refl in
    let facts = subst (λ (b : Bool). Invariant (after_if b (stream_before past e) e)) here (stream_facts e.stream (e ∷ past) honest fresh) in
    let body = emission_alike (stream_before past e) e.side e.act p q facts is c same in
    let number = emitted_bear e.stream past e.side q c ∙ sym (emission_bears past e.stream e.side e.act p is) in
    ap (λ (n : ℕ). record { stream = n; body = q.body }) number ∙ ap (λ (b : OwnedBody). record { stream = p.stream; body = b }) body
