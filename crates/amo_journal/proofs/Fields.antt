-- The fields of a line: what they are made of, and their text.
use Rattle.std.proofs.Common.{◌≡◌, ◌≢◌, ℕ, zero, suc, ◌<◌, ◌^◌, List, [], ◌∷◌, ◌++◌, refl, sym, ◌∙◌, ap, append_assoc, codes, arith}
use Rattle.std.specs.Fmt.{decimal}
use Rattle.std.specs.List.{All, AllByRecursion}
use Rattle.hex.specs.Hex.{IsBytes}
use Rattle.amo_object.specs.declared.step.End.{End}
use Rattle.amo_object.specs.declared.step.End.TheVariants.{Sender, Receiver}
use Rattle.amo_packet.specs.declared.packet.OwnedPacket.{OwnedPacket}
use Rattle.amo_packet.specs.Grammar.{spelling, messages_of}
use Rattle.amo_packet.proofs.Spellings.{All-spelling}
use Rattle.amo_core.specs.declared.act.Act.{Act}
use Rattle.amo_core.specs.declared.act.Act.TheVariants as act
use Rattle.amo_core.specs.declared.reply.Reply.{Reply}
use Rattle.amo_core.specs.declared.reply.Reply.TheVariants as reply
use Rattle.amo_text.specs.Hexadecimal.{hex}
use Rattle.amo_text.specs.Line.{IsField, IsLine, text_of}
use Rattle.amo_text.specs.Side.{letter_of}
use Rattle.amo_text.specs.Reply.{reply_fields, reply_text}
use Rattle.amo_text.proofs.Fields.{letters, IsField-letter_of}
use Rattle.amo_text.proofs.Cuts.{IsField-decimal, IsField-hex}
use Rattle.amo_world.specs.declared.event.Event.{Event}
use Rattle.amo_journal.specs.declared.numbered.Numbered.{Numbered}
use Rattle.amo_journal.specs.declared.version.Version.{Version}
use Rattle.amo_journal.specs.Fields.{act_and, place_and}
use Rattle.amo_journal.specs.Journal.{act_fields, event_fields, fields_of, HasAct, HasReply, IsPacketOf, InRange}

-- a packet's spelling is made of bytes
abbrev IsByte : ℕ → Type 0
IsByte b = b < 256

pub to_bytes : (xs : List ℕ) → All IsByte xs → IsBytes xs
to_bytes [] all i = omega arith
to_bytes (x ∷ xs) all zero = all 0 0 (omega arith)
to_bytes (x ∷ xs) all (suc i) = to_bytes xs (λ k d h. all (suc k) d (omega arith)) i

pub from_bytes : (xs : List ℕ) → IsBytes xs → All IsByte xs
from_bytes [] bytes k d h = absurd (omega arith)
from_bytes (x ∷ xs) bytes zero d h = bytes 0
from_bytes (x ∷ xs) bytes (suc k) d h = from_bytes xs (λ i. bytes (suc i)) k d (omega arith)

each_from_bytes : (ms : List (List ℕ)) → AllByRecursion IsBytes ms → AllByRecursion (All IsByte) ms
each_from_bytes [] known = tt
each_from_bytes (m ∷ ms) known = (from_bytes m known.0, each_from_bytes ms known.1)

pub bytes_of_spelling : (p : OwnedPacket) → AllByRecursion IsBytes (messages_of p.body) → IsBytes (spelling p)
bytes_of_spelling p known = to_bytes (spelling p) (All-spelling p (each_from_bytes (messages_of p.body) known))

delivery_is_fields : (version : Version) (stream : ℕ) (p : OwnedPacket) (word : ℕ) → IsPacketOf version stream p × (word < 2 ^ 64) → AllByRecursion IsField (act_fields (act.Deliver p word))
delivery_is_fields version stream p word known = (letters (codes "deliver") refl, (IsField-hex (spelling p) (bytes_of_spelling p known.0.bytes), (IsField-decimal word known.1, tt)))

act_is_fields : (version : Version) (side : End) (stream : ℕ) (a : Act) → HasAct version side stream a → AllByRecursion IsField (act_fields a)
act_is_fields version Sender stream (act.Put m) known = (letters (codes "put") refl, (IsField-hex m known.1, tt))
act_is_fields version Receiver stream (act.Put m) known = absurd known
act_is_fields version side stream act.Get known = (letters (codes "get") refl, tt)
act_is_fields version side stream act.Ack known = (letters (codes "ack") refl, tt)
act_is_fields version Sender stream (act.Start word) known = (letters (codes "start") refl, (IsField-decimal word known, tt))
act_is_fields version Receiver stream (act.Start word) known = absurd known
act_is_fields version Sender stream (act.Batch word) known = (letters (codes "batch") refl, (IsField-decimal word known.1, tt))
act_is_fields version Receiver stream (act.Batch word) known = absurd known
act_is_fields version Sender stream (act.Deliver p word) known = delivery_is_fields version stream p word known
act_is_fields version Receiver stream (act.Deliver p word) known = delivery_is_fields version stream p word known
act_is_fields version side stream act.Resend known = (letters (codes "resend") refl, tt)
act_is_fields version side stream act.Crash known = (letters (codes "crash") refl, tt)
act_is_fields version side stream act.Recover known = (letters (codes "recover") refl, tt)

reply_is_fields : (a : Act) (r : Reply) → HasReply a r → AllByRecursion IsField (reply_fields r)
reply_is_fields act.Get (reply.Got m) known = (letters (codes "got") refl, (IsField-hex m known.1, tt))
reply_is_fields _ (reply.Got m) known = absurd known
reply_is_fields a reply.Ok known = (letters (codes "ok") refl, tt)
reply_is_fields a reply.Full known = (letters (codes "full") refl, tt)
reply_is_fields a reply.Down known = (letters (codes "down") refl, tt)
reply_is_fields a reply.Nothing known = (letters (codes "nothing") refl, tt)
reply_is_fields a reply.Yes known = (letters (codes "yes") refl, tt)
reply_is_fields a reply.No known = (letters (codes "no") refl, tt)
reply_is_fields a reply.NotYet known = (letters (codes "notyet") refl, tt)
reply_is_fields a reply.Done known = (letters (codes "done") refl, tt)

join : (us vs : List (List ℕ)) → AllByRecursion IsField us → AllByRecursion IsField vs → AllByRecursion IsField (us ++ vs)
join [] vs p q = q
join (u ∷ us) vs p q = (p.0, join us vs p.1 q)

-- the fields of a line are a line
pub IsLine-fields_of : (version : Version) (line : Numbered) → InRange version line → IsLine (fields_of line)
IsLine-fields_of version line known =
    let e = line.event in
    let small = known.1.pass in
    let within = known.1.stream in (
      (λ none. cc),
      (
        IsField-decimal line.number known.0,
        (
          IsField-decimal e.pass (omega arith),
          (
            IsField-letter_of e.side,
            (
              IsField-decimal e.stream (omega (arith, within.1)),
              join (act_fields e.act) (reply_fields e.reply) (act_is_fields version e.side e.stream e.act known.1.act) (reply_is_fields e.act e.reply known.1.reply),
            ),
          ),
        ),
      ),
    )

-- the text of a reply
pub text_of_reply : (r : Reply) → text_of (reply_fields r) ≡ reply_text r
text_of_reply (reply.Got m) = refl
text_of_reply _ = refl

joined_one : (w : List ℕ) (r : Reply) → text_of (w ∷ reply_fields r) ≡ w ++ 32 ∷ reply_text r
joined_one w (reply.Got m) = refl
joined_one w reply.Ok = refl
joined_one w reply.Full = refl
joined_one w reply.Down = refl
joined_one w reply.Nothing = refl
joined_one w reply.Yes = refl
joined_one w reply.No = refl
joined_one w reply.NotYet = refl
joined_one w reply.Done = refl

joined_two : (v w : List ℕ) (r : Reply) → text_of (v ∷ w ∷ reply_fields r) ≡ (v ++ 32 ∷ w) ++ 32 ∷ reply_text r
joined_two v w r = ap (λ (t : List ℕ). v ++ 32 ∷ t) (joined_one w r) ∙ sym (append_assoc v (32 ∷ w) (32 ∷ reply_text r))

joined_three : (u v w : List ℕ) (r : Reply) → text_of (u ∷ v ∷ w ∷ reply_fields r) ≡ (u ++ 32 ∷ (v ++ 32 ∷ w)) ++ 32 ∷ reply_text r
joined_three u v w r = ap (λ (t : List ℕ). u ++ 32 ∷ t) (joined_two v w r) ∙ sym (append_assoc u (32 ∷ (v ++ 32 ∷ w)) (32 ∷ reply_text r))

-- the text of an act, a space, and the text of a reply
pub text_of_both : (a : Act) (r : Reply) → text_of (act_fields a ++ reply_fields r) ≡ text_of (act_fields a) ++ 32 ∷ reply_text r
text_of_both (act.Put m) r = joined_two (codes "put") (hex m) r
text_of_both (act.Start word) r = joined_two (codes "start") (decimal word) r
text_of_both (act.Batch word) r = joined_two (codes "batch") (decimal word) r
text_of_both (act.Deliver p word) r = joined_three (codes "deliver") (hex (spelling p)) (decimal word) r
text_of_both act.Get r = joined_one (codes "get") r
text_of_both act.Ack r = joined_one (codes "ack") r
text_of_both act.Resend r = joined_one (codes "resend") r
text_of_both act.Crash r = joined_one (codes "crash") r
text_of_both act.Recover r = joined_one (codes "recover") r

text_of_cons : (w : List ℕ) (ws : List (List ℕ)) → ws ≢ [] → text_of (w ∷ ws) ≡ w ++ 32 ∷ text_of ws
text_of_cons w [] some = absurd (some refl)
text_of_cons w (v ∷ ws) some = refl

some_fields : (a : Act) (r : Reply) → act_fields a ++ reply_fields r ≢ []
some_fields (act.Put m) r e = cc
some_fields (act.Start word) r e = cc
some_fields (act.Batch word) r e = cc
some_fields (act.Deliver p word) r e = cc
some_fields _ r e = cc

-- the text of an event, on a line without its number
pub text_of_event : (e : Event) → text_of (event_fields e) ≡ place_and e.pass e.side e.stream (act_and e.act (reply_text e.reply))
text_of_event e =
    let both = act_fields e.act ++ reply_fields e.reply in
    ap (λ (t : List ℕ). decimal e.pass ++ 32 ∷ (letter_of e.side ++ 32 ∷ t))
    (text_of_cons (decimal e.stream) both (some_fields e.act e.reply) ∙ ap (λ (t : List ℕ). decimal e.stream ++ 32 ∷ t) (text_of_both e.act e.reply))

-- the text of a line
pub text_of_line : (line : Numbered) → text_of (fields_of line) ≡ decimal line.number ++ 32 ∷ place_and line.event.pass line.event.side line.event.stream (act_and line.event.act (reply_text line.event.reply))
text_of_line line = ap (λ (t : List ℕ). decimal line.number ++ 32 ∷ t) (text_of_event line.event)

-- a line that is written field by field
pub pushed_line : (t n p l s a r t1 t2 t3 t4 t5 t6 t7 t8 t9 t10 t11 t12 : List ℕ) → t1 ≡ t ++ n → t2 ≡ t1 ++ 32 ∷ [] → t3 ≡ t2 ++ p → t4 ≡ t3 ++ 32 ∷ [] → t5 ≡ t4 ++ l → t6 ≡ t5 ++ 32 ∷ []
    → t7 ≡ t6 ++ s → t8 ≡ t7 ++ 32 ∷ [] → t9 ≡ t8 ++ a → t10 ≡ t9 ++ 32 ∷ [] → t11 ≡ t10 ++ r → t12 ≡ t11 ++ 10 ∷ []
    → t12 ≡ t ++ ((n ++ 32 ∷ (p ++ 32 ∷ (l ++ 32 ∷ (s ++ 32 ∷ (a ++ 32 ∷ r))))) ++ 10 ∷ [])
pushed_line t n p l s a r t1 t2 t3 t4 t5 t6 t7 t8 t9 t10 t11 t12 e1 e2 e3 e4 e5 e6 e7 e8 e9 e10 e11 e12 =
    rw (e12, e11, e10, e9, e8, e7, e6, e5, e4, e3, e2, e1) (simp append_assoc)
