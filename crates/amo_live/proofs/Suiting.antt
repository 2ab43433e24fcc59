-- The acts of a host are those of its side.
use Rattle.std.proofs.Common.{◌≡◌, ℕ, zero, suc, ◌<◌, ◌^◌, Bool, true, false, List, [], ◌∷◌, Some, None, Result, Ok, Err, IfOk, IfSome, length, slice_get, refl, sym, ap, ◌∙◌, subst, arith}
use Rattle.hex.specs.Hex.{IsBytes}
use Rattle.amo_object.specs.declared.step.End.{End}
use Rattle.amo_object.specs.declared.step.End.TheVariants.{Sender, Receiver}
use Rattle.amo_packet.specs.declared.packet.OwnedPacket.{OwnedPacket}
use Rattle.amo_packet.specs.declared.packet.OwnedBody.{OwnedBody}
use Rattle.amo_packet.specs.declared.packet.OwnedBody.TheVariants as packet
use Rattle.amo_packet.specs.Grammar.{Spells}
use Rattle.amo_core.specs.declared.act.Act.{Act}
use Rattle.amo_core.specs.declared.act.Act.TheVariants as act
use Rattle.amo_core.specs.declared.reply.Reply.TheVariants.{Done}
use Rattle.amo_text.specs.Message.{IsMessage}
use Rattle.amo_book.specs.declared.fault.PutFault.{PutFault}
use Rattle.amo_book.specs.declared.fault.PutFault.TheVariants as put_fault
use Rattle.amo_book.specs.declared.fault.GetFault.{GetFault}
use Rattle.amo_book.specs.declared.fault.GetFault.TheVariants as get_fault
use Rattle.amo_book.specs.declared.fault.AckFault.{AckFault}
use Rattle.amo_book.specs.declared.fault.AckFault.TheVariants as ack_fault
use Rattle.amo_book.specs.Calls.{put_answer, get_answer, ack_answer}
use Rattle.amo_journal.specs.declared.version.Version.{Version}
use Rattle.amo_journal.specs.declared.version.Version.TheVariants.{Two}
use Rattle.amo_journal.specs.Version.{HasBatches, newest}
use Rattle.amo_journal.specs.Journal.{HasAct, HasReply, IsPacketOf}
use Rattle.amo_journal.proofs.Packets.{packet_spelt}
use Rattle.amo_journal.proofs.Versions.{act_in_two}
use Rattle.amo_book.specs.Pass.{Answer}
use Rattle.amo_live.specs.Host.{IsHostAct, Suits, word_for}

pub start_suits : (version : Version) (side : End) (stream word : ℕ) → side ≡ Sender → word < 2 ^ 64 → Suits version side stream (act.Start word)
start_suits version side stream word is small = (tt, subst (λ (s : End). HasAct version s stream (act.Start word)) (sym is) small)

pub batch_suits : (version : Version) (side : End) (stream word : ℕ) → HasBatches version → side ≡ Sender → word < 2 ^ 64 → Suits version side stream (act.Batch word)
batch_suits version side stream word has is small = (tt, subst (λ (s : End). HasAct version s stream (act.Batch word)) (sym is) (has, small))

pub resend_suits : (version : Version) (side : End) (stream : ℕ) → Suits version side stream act.Resend
resend_suits version Sender stream = (tt, tt)
resend_suits version Receiver stream = (tt, tt)

pub crash_suits : (version : Version) (side : End) (stream : ℕ) → Suits version side stream act.Crash
crash_suits version Sender stream = (tt, tt)
crash_suits version Receiver stream = (tt, tt)

pub recover_suits : (version : Version) (side : End) (stream : ℕ) → Suits version side stream act.Recover
recover_suits version Sender stream = (tt, tt)
recover_suits version Receiver stream = (tt, tt)

delivers : (version : Version) (side : End) (stream : ℕ) (p : OwnedPacket) (word : ℕ) → IsPacketOf version stream p → word < 2 ^ 64 → HasAct version side stream (act.Deliver p word)
delivers version Sender stream p word h small = (h, small)
delivers version Receiver stream p word h small = (h, small)

-- the word of a packet is its word
word_of_it : (body : OwnedBody) (word : ℕ) → word_for body word ≡ word_for body (word_for body word)
word_of_it (packet.NeedUid jd) word = refl
word_of_it (packet.Accept jd id) word = refl
word_of_it (packet.Send id m) word = refl
word_of_it (packet.Ack id got) word = refl
word_of_it (packet.Cleanup id) word = refl
word_of_it (packet.Batch id b) word = refl

-- and is none, or the one that was given
pub word_small : (body : OwnedBody) (word given : ℕ) → word ≡ word_for body given → given < 2 ^ 64 → word < 2 ^ 64
word_small (packet.NeedUid jd) word given is small = subst (λ (n : ℕ). n < 2 ^ 64) (sym is) small
word_small (packet.Accept jd id) word given is small = omega arith
word_small (packet.Send id m) word given is small = omega arith
word_small (packet.Ack id got) word given is small = omega arith
word_small (packet.Cleanup id) word given is small = omega arith
word_small (packet.Batch id b) word given is small = omega arith

-- a packet that bytes spell, in a version of packets that has lines, for a side of its stream
pub deliver_suits : (version : Version) (side : End) (stream : ℕ) (bytes : List ℕ) (p : OwnedPacket) (word given : ℕ) → IsBytes bytes → Spells (newest version) bytes p → p.stream ≡ stream → word ≡ word_for p.body given → word < 2 ^ 64
    → Suits version side stream (act.Deliver p word)
deliver_suits version side stream bytes p word given known spelt of is small =
    let whole = packet_spelt (newest version) bytes p p known spelt refl in
    (is ∙ (word_of_it p.body given ∙ ap (word_for p.body) (sym is)), delivers version side stream p word (record { version_is = spelt.version; spellable = whole.0.0; bytes = whole.0.1; stream = of }) small)

-- a journal of version 2 has a line for each act of a side
pub suits_two : (version : Version) (side : End) (stream : ℕ) (a : Act) → Suits version side stream a → Suits Two side stream a
suits_two version side stream a suits = (suits.0, act_in_two version side stream a suits.1)

-- a host's acts are answered
pub acts_done : (a : Act) → IsHostAct a → HasReply a Done
acts_done (act.Put m) h = absurd h
acts_done (act.Batch word) h = tt
acts_done act.Get h = absurd h
acts_done act.Ack h = absurd h
acts_done (act.Start word) h = tt
acts_done act.Resend h = tt
acts_done (act.Deliver p word) h = tt
acts_done act.Crash h = tt
acts_done act.Recover h = tt

-- there is something in each place
pub stands : {X : Type 0} (xs : List X) (i : ℕ) → i < length xs → (x : X) × (slice_get xs i ≡ Some x)
stands [] i within = absurd (omega arith)
stands (x ∷ xs) zero within = (x, refl)
stands (x ∷ xs) (suc i) within = stands xs i (omega arith)

-- what a put answered has its line
pub put_spelt : (version : Version) (stream : ℕ) (m copy : List ℕ) (r : Result ℕ PutFault) (known : Answer) → IsMessage m → copy ≡ m → known ≡ put_answer r
    → IfSome known (λ k. HasAct version Sender stream (act.Put copy) × HasReply (act.Put copy) k.0)
put_spelt version stream m copy r known short is told =
    subst (λ (a : Answer). IfSome a (λ k. HasAct version Sender stream (act.Put copy) × HasReply (act.Put copy) k.0)) (sym told) (spelt r)
  where
    message : IsMessage copy
    message = subst IsMessage (sym is) short

    spelt : (r : Result ℕ PutFault) → IfSome (put_answer r) (λ k. HasAct version Sender stream (act.Put copy) × HasReply (act.Put copy) k.0)
    spelt (Ok n) = (message, tt)
    spelt (Err (put_fault.Full n x)) = (message, tt)
    spelt (Err (put_fault.Down n x)) = (message, tt)
    spelt (Err (put_fault.Busy x)) = tt
    spelt (Err (put_fault.NoStream x)) = tt

-- and what a get answered, where its message is one
pub get_replies : (r : Result (List ℕ × ℕ) GetFault) → IfOk r (λ t. IsMessage t.0) → IfSome (get_answer r) (λ k. HasReply act.Get k.0)
get_replies (Ok (m, n)) k = k
get_replies (Err (get_fault.Nothing n)) k = tt
get_replies (Err (get_fault.Down n)) k = tt
get_replies (Err get_fault.Busy) k = tt
get_replies (Err get_fault.NoStream) k = tt

pub get_spelt : (version : Version) (stream : ℕ) (known : Answer) → IfSome known (λ k. HasReply act.Get k.0) → IfSome known (λ k. HasAct version Receiver stream act.Get × HasReply act.Get k.0)
get_spelt version stream None replies = tt
get_spelt version stream (Some (reply, position)) replies = (tt, replies)

-- and what a question for the last put answered
pub ack_spelt : (version : Version) (stream : ℕ) (r : Result (Bool × ℕ) AckFault) (known : Answer) → known ≡ ack_answer r
    → IfSome known (λ k. HasAct version Sender stream act.Ack × HasReply act.Ack k.0)
ack_spelt version stream r known told =
    subst (λ (a : Answer). IfSome a (λ k. HasAct version Sender stream act.Ack × HasReply act.Ack k.0)) (sym told) (spelt r)
  where
    spelt : (r : Result (Bool × ℕ) AckFault) → IfSome (ack_answer r) (λ k. HasAct version Sender stream act.Ack × HasReply act.Ack k.0)
    spelt (Ok (true, n)) = (tt, tt)
    spelt (Ok (false, n)) = (tt, tt)
    spelt (Err (ack_fault.NotYet n)) = (tt, tt)
    spelt (Err (ack_fault.Down n)) = (tt, tt)
    spelt (Err ack_fault.Busy) = tt
    spelt (Err ack_fault.NoStream) = tt
