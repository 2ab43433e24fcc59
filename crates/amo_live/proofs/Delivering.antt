-- Which word a delivery bears.
use Rattle.std.proofs.Common.{◌≡◌, ◌≢◌, ℕ, List, [], ◌∷◌, ◌++◌, Option, Some, None, Result, Ok, Err, IfOk, OnOk, refl, ap, ◌∙◌}
use Rattle.amo_packet.specs.Grammar.{Spells}
use Rattle.amo_packet.specs.Packet.{body_of, packet_of}
use Rattle.amo_packet.specs.declared.packet.Packet.{Packet}
use Rattle.amo_packet.specs.declared.packet.Body.{Body}
use Rattle.amo_packet.specs.declared.packet.Body.TheVariants.{NeedUid, Accept, Send, Ack, Cleanup, Batch}
use Rattle.amo_core.specs.declared.mode.Mode.{Mode}
use Rattle.amo_book.specs.Pass.{mine}
use Rattle.amo_journal.specs.Version.{newest}
use Rattle.amo_live.specs.Host.{HostState, Delivered}
use Rattle.amo_live.specs.Words.{BearsNew, IsNew, StaysDrawn, word_of_delivery, words_in}
use Rattle.amo_live.proofs.Fresh.{bears_none, bears_word, delivery_bears, none_borne, none_delivered}

-- a packet other than a needuid bears none
other_word : (body : Body) (word : ℕ) → ((jd : ℕ) → body ≢ NeedUid jd) → word_of_delivery (body_of body) word ≡ []
other_word (NeedUid jd) word other = absurd (other jd refl)
other_word (Accept jd id) word other = refl
other_word (Send id bytes) word other = refl
other_word (Ack id got) word other = refl
other_word (Cleanup id) word other = refl
other_word (Batch id parts) word other = refl

-- so its delivery bears none
pub other_delivered : {L S E W : Type 0} (drawn : W → ℕ → Type 0) (h g : HostState L S) (bytes : List ℕ) (p : Packet) (words : W) (r : Result (Option (ℕ × Mode)) E) → Spells (newest h.journal.version) bytes (packet_of p)
    → ((jd : ℕ) → p.body ≢ NeedUid jd) → IfOk r (Delivered h g bytes 0) → OnOk r (BearsNew drawn words words h.pass g.pass)
other_delivered drawn h g bytes p words (Err e) spelt other delivered = tt
other_delivered drawn h g bytes p words (Ok None) spelt other delivered = bears_none words words h.pass g.pass refl (none_delivered h g bytes 0 delivered)
other_delivered drawn h g bytes p words (Ok (Some (stream, mode))) spelt other delivered =
    bears_none words words h.pass g.pass refl
    (delivery_bears h g bytes (packet_of p) 0 stream mode spelt delivered ∙ ap (λ (l : List ℕ). l ++ words_in (mine h.pass)) (other_word p.body 0 other))

-- a needuid bears the word that it is delivered with
pub needuid_delivered : {L S : Type 0} (h g : HostState L S) (bytes : List ℕ) (p : Packet) (word jd : ℕ) (did : ℕ × Mode) → p.body ≡ NeedUid jd → Spells (newest h.journal.version) bytes (packet_of p)
    → Delivered h g bytes word (Some did) → words_in (mine g.pass) ≡ word ∷ words_in (mine h.pass)
needuid_delivered h g bytes p word jd (stream, mode) needs spelt delivered =
    delivery_bears h g bytes (packet_of p) word stream mode spelt delivered ∙ ap (λ (b : Body). word_of_delivery (body_of b) word ++ words_in (mine h.pass)) needs

-- so one that came with a new word bears that, or there is none
pub needuid_is_new : {L S E W : Type 0} (drawn : W → ℕ → Type 0) (h g : HostState L S) (bytes : List ℕ) (p : Packet) (s t : W) (word jd : ℕ) (r : Result (Option (ℕ × Mode)) E) → p.body ≡ NeedUid jd → Spells (newest h.journal.version) bytes (packet_of p)
    → IsNew (drawn s) (drawn t) word → StaysDrawn (drawn s) (drawn t) → IfOk r (Delivered h g bytes word) → OnOk r (BearsNew drawn s t h.pass g.pass)
needuid_is_new drawn h g bytes p s t word jd (Err e) needs spelt new stays delivered = tt
needuid_is_new drawn h g bytes p s t word jd (Ok None) needs spelt new stays delivered = none_borne s t h.pass g.pass stays (none_delivered h g bytes word delivered)
needuid_is_new drawn h g bytes p s t word jd (Ok (Some did)) needs spelt new stays delivered = bears_word s t word h.pass g.pass new stays (needuid_delivered h g bytes p word jd did needs spelt delivered)

-- what was delivered without a word was delivered
pub under_some_word : {L S E : Type 0} (h g : HostState L S) (bytes : List ℕ) (word : ℕ) (r : Result (Option (ℕ × Mode)) E) → IfOk r (Delivered h g bytes word) → IfOk r (λ did. (w : ℕ) × Delivered h g bytes w did)
under_some_word h g bytes word (Ok did) delivered = (word, delivered)
under_some_word h g bytes word (Err e) delivered = tt
