-- No word is borne twice.
use Rattle.std.proofs.Common.{◌≡◌, ◌≢◌, ℕ, Bool, true, false, List, [], ◌∷◌, ◌++◌, Option, Some, None, Result, Ok, Err, IfOk, OnOk, refl, sym, ap, ◌∙◌, subst, append_assoc}
use Rattle.std.specs.List.{AllByRecursion}
use Rattle.amo_object.specs.declared.step.End.{End}
use Rattle.amo_packet.specs.declared.packet.OwnedPacket.{OwnedPacket}
use Rattle.amo_packet.specs.declared.packet.OwnedBody.{OwnedBody}
use Rattle.amo_packet.specs.declared.packet.OwnedBody.TheVariants as packet
use Rattle.amo_packet.specs.Grammar.{Spells}
use Rattle.amo_packet.proofs.Spellings.{Spells-unique}
use Rattle.amo_core.specs.declared.act.Act.{Act}
use Rattle.amo_core.specs.declared.act.Act.TheVariants as act
use Rattle.amo_core.specs.declared.mode.Mode.{Mode}
use Rattle.amo_book.specs.Pass.{PassState, Answer, Grown, mine}
use Rattle.amo_journal.specs.declared.version.Version.{Version}
use Rattle.amo_journal.specs.declared.version.Version.TheVariants.{One, Two}
use Rattle.amo_journal.specs.Version.{newest}
use Rattle.amo_live.specs.Host.{HostState, Did, Delivered, Looks, word_for}
use Rattle.amo_live.specs.Service.{start_of}
use Rattle.amo_live.proofs.Repeating.{looks_still, none_still}
use Rattle.amo_live.specs.Words.{AreNew, BearsNew, IsNew, StaysDrawn, word_by, word_of_delivery, words_in}

-- what was drawn at first still is
pub stays_on : (a b c : ℕ → Type 0) → StaysDrawn a b → StaysDrawn b c → StaysDrawn a c
stays_on a b c one two word is = two word (one word is)

-- a word that is new behind some that were drawn
pub new_behind : (a b c : ℕ → Type 0) (word : ℕ) → StaysDrawn a b → IsNew b c word → IsNew a c word
new_behind a b c word stays new = record { some = new.some; out = λ is. new.out (stays word is); in_use = new.in_use }

-- no word was borne, though some may have been drawn
pub none_borne : {W : Type 0} {drawn : W → ℕ → Type 0} (s t : W) (v w : PassState) → StaysDrawn (drawn s) (drawn t) → words_in (mine w) ≡ words_in (mine v) → BearsNew drawn s t v w
none_borne s t v w stays none = record { words = []; borne = none; new = tt; stays = stays }

-- nor was one drawn
pub bears_none : {W : Type 0} {drawn : W → ℕ → Type 0} (s t : W) (v w : PassState) → t ≡ s → words_in (mine w) ≡ words_in (mine v) → BearsNew drawn s t v w
bears_none {drawn = drawn} s t v w same none = none_borne s t v w (λ word is. subst (λ u. drawn u word) (sym same) is) none

-- a new word was borne
pub bears_word : {W : Type 0} {drawn : W → ℕ → Type 0} (s t : W) (word : ℕ) (v w : PassState) → IsNew (drawn s) (drawn t) word → StaysDrawn (drawn s) (drawn t) → words_in (mine w) ≡ word ∷ words_in (mine v) → BearsNew drawn s t v w
bears_word s t word v w new stays more = record { words = word ∷ []; borne = more; new = (new, tt, tt); stays = stays }

-- a word that was not drawn is none of those that were
is_other : (before since : ℕ → Type 0) (word : ℕ) (words : List ℕ) → ¬ (since word) → AreNew before since words → AllByRecursion (λ w. w ≢ word) words
is_other before since word [] out new = tt
is_other before since word (w ∷ words) out (one, once, rest) = (λ same. out (subst since same one.in_use), is_other before since word words out rest)

both_all : (P : ℕ → Type 0) (xs ys : List ℕ) → AllByRecursion P xs → AllByRecursion P ys → AllByRecursion P (xs ++ ys)
both_all P [] ys a b = b
both_all P (x ∷ xs) ys a b = (a.0, both_all P xs ys a.1 b)

still_new : (a b c : ℕ → Type 0) (words : List ℕ) → StaysDrawn b c → AreNew a b words → AreNew a c words
still_new a b c [] stays new = tt
still_new a b c (word ∷ words) stays (one, once, rest) = (record { some = one.some; out = one.out; in_use = stays word one.in_use }, once, still_new a b c words stays rest)

-- words that were new at first, and those that were new behind them
both_new : (a b c : ℕ → Type 0) (later earlier : List ℕ) → StaysDrawn a b → StaysDrawn b c → AreNew b c later → AreNew a b earlier → AreNew a c (later ++ earlier)
both_new a b c [] earlier one two new old = still_new a b c earlier two old
both_new a b c (word ∷ later) earlier one two (is, once, rest) old =
    (new_behind a b c word one is, both_all (λ w. w ≢ word) later earlier once (is_other a b word earlier is.out old), both_new a b c later earlier one two rest old)

-- one after the other
pub bears_on : {W : Type 0} {drawn : W → ℕ → Type 0} (a b c : W) (u v w : PassState) → BearsNew drawn a b u v → BearsNew drawn b c v w → BearsNew drawn a c u w
bears_on {drawn = drawn} a b c u v w one two = record {
  words = two.words ++ one.words;
  borne = two.borne ∙ (ap (λ (l : List ℕ). two.words ++ l) one.borne ∙ sym (append_assoc two.words one.words (words_in (mine u))));
  new = both_new (drawn a) (drawn b) (drawn c) two.words one.words one.stays two.stays two.new one.new;
  stays = stays_on (drawn a) (drawn b) (drawn c) one.stays two.stays;
}

-- the same, of values that are known under other names
pub bears_as : {W : Type 0} {drawn : W → ℕ → Type 0} (a b c d : W) (u v w x : PassState) → c ≡ a → d ≡ b → w ≡ u → x ≡ v → BearsNew drawn a b u v → BearsNew drawn c d w x
bears_as {drawn = drawn} a b c d u v w x p q r s bears =
    subst (λ k. BearsNew drawn k d w x) (sym p) (subst (λ k. BearsNew drawn a k w x) (sym q) (subst (λ (k : PassState). BearsNew drawn a b k x) (sym r) (subst (λ (k : PassState). BearsNew drawn a b u k) (sym s) bears)))

-- a client's call bears no word
pub call_bears : (v w : PassState) (side : End) (stream : ℕ) (a : Act) (answer : Answer) → word_by a ≡ [] → Grown v w side stream a answer → words_in (mine w) ≡ words_in (mine v)
call_bears v w side stream a None none grown = ap (λ (p : PassState). words_in (mine p)) grown
call_bears v w side stream a (Some (r, position)) none grown = ap words_in grown.mine_grew ∙ ap (λ (l : List ℕ). l ++ words_in (mine v)) none

-- nor does a resend
pub resend_bears : {L S : Type 0} (h g : HostState L S) (stream : ℕ) (mode : Option Mode) → Did h g stream act.Resend mode → words_in (mine g.pass) ≡ words_in (mine h.pass)
resend_bears h g stream None did = ap (λ (p : PassState). words_in (mine p)) did.0
resend_bears h g stream (Some mode) did = ap words_in did.grown.mine_grew

-- a start bears its word
pub start_bears : {L S : Type 0} (h g : HostState L S) (stream word : ℕ) (batch : Bool) (version : Version) (mode : Mode) → Did h g stream (start_of batch version word) (Some mode) → words_in (mine g.pass) ≡ word ∷ words_in (mine h.pass)
start_bears h g stream word batch One mode did = ap words_in did.grown.mine_grew
start_bears h g stream word false Two mode did = ap words_in did.grown.mine_grew
start_bears h g stream word true Two mode did = ap words_in did.grown.mine_grew

pub idle_bears : {L S : Type 0} (h g : HostState L S) (stream : ℕ) (a : Act) → Did h g stream a None → words_in (mine g.pass) ≡ words_in (mine h.pass)
idle_bears h g stream a did = ap (λ (p : PassState). words_in (mine p)) did.0

-- a packet is delivered with the word that it bears
borne_by : (body : OwnedBody) (word : ℕ) → word_of_delivery body (word_for body word) ≡ word_of_delivery body word
borne_by (packet.NeedUid jd) word = refl
borne_by (packet.Accept jd id) word = refl
borne_by (packet.Send id m) word = refl
borne_by (packet.Ack id got) word = refl
borne_by (packet.Cleanup id) word = refl
borne_by (packet.Batch id b) word = refl

-- the delivery of this packet bears its word, where it is a needuid
pub delivery_bears : {L S : Type 0} (h g : HostState L S) (bytes : List ℕ) (p : OwnedPacket) (word stream : ℕ) (mode : Mode) → Spells (newest h.journal.version) bytes p → Delivered h g bytes word (Some (stream, mode))
    → words_in (mine g.pass) ≡ word_of_delivery p.body word ++ words_in (mine h.pass)
delivery_bears h g bytes p word stream mode spelt (q, spells, is, happens) =
    ap words_in happens.grown.mine_grew ∙ (ap (λ (l : List ℕ). l ++ words_in (mine h.pass)) (borne_by q.body word) ∙ ap (λ (r : OwnedPacket). word_of_delivery r.body word ++ words_in (mine h.pass)) (Spells-unique (newest h.journal.version) (newest h.journal.version) bytes q p spells spelt))

pub none_delivered : {L S : Type 0} (h g : HostState L S) (bytes : List ℕ) (word : ℕ) → Delivered h g bytes word None → words_in (mine g.pass) ≡ words_in (mine h.pass)
none_delivered h g bytes word none = ap words_in (none_still h g bytes word none)

-- what is repeated bears no word
pub look_bears : {L S : Type 0} (h g : HostState L S) (stream : ℕ) (a : Act) (known : Bool) → Looks h g stream a known → words_in (mine g.pass) ≡ words_in (mine h.pass)
look_bears h g stream a known looks = ap words_in (looks_still h g stream a known looks)

-- a start that came of a new word bears it, or there is none
pub start_is_new : {L S E W : Type 0} (drawn : W → ℕ → Type 0) (h g : HostState L S) (s t : W) (stream word : ℕ) (batch : Bool) (version : Version) (r : Result (Option Mode) E) → IsNew (drawn s) (drawn t) word → StaysDrawn (drawn s) (drawn t)
    → IfOk r (Did h g stream (start_of batch version word)) → OnOk r (BearsNew drawn s t h.pass g.pass)
start_is_new drawn h g s t stream word batch version (Err e) new stays did = tt
start_is_new drawn h g s t stream word batch version (Ok None) new stays did = none_borne s t h.pass g.pass stays (idle_bears h g stream (start_of batch version word) did)
start_is_new drawn h g s t stream word batch version (Ok (Some mode)) new stays did = bears_word s t word h.pass g.pass new stays (start_bears h g stream word batch version mode did)
