-- How long a line of a journal is at most.
use Rattle.std.proofs.Common.{◌≡◌, ℕ, ◌+◌, ◌*◌, ◌<◌, ◌≤◌, ◌^◌, List, [], ◌∷◌, ◌++◌, length, refl, ap, arith}
use Rattle.std.proofs.lemmas.List.{length-append}
use Rattle.std.proofs.lemmas.Fmt.{length-decimal-le}
use Rattle.std.specs.Fmt.{decimal}
use Rattle.hex.specs.Hex.{lower_digits}
use Rattle.hex.proofs.HexLemmas.{length-encode_with}
use Rattle.amo_object.specs.declared.step.End.{End}
use Rattle.amo_object.specs.declared.step.End.TheVariants.{Sender, Receiver}
use Rattle.amo_packet.specs.declared.packet.OwnedPacket.{OwnedPacket}
use Rattle.amo_packet.specs.Grammar.{IsSpellable, spelling}
use Rattle.amo_packet.proofs.Spellings.{spelling_short}
use Rattle.amo_core.specs.declared.act.Act.{Act}
use Rattle.amo_core.specs.declared.act.Act.TheVariants as act
use Rattle.amo_core.specs.declared.reply.Reply.{Reply}
use Rattle.amo_core.specs.declared.reply.Reply.TheVariants as reply
use Rattle.amo_text.specs.Hexadecimal.{hex}
use Rattle.amo_text.specs.Line.{text_of}
use Rattle.amo_text.specs.Reply.{reply_text}
use Rattle.amo_text.specs.Side.{letter_of}
use Rattle.amo_journal.specs.declared.numbered.Numbered.{Numbered}
use Rattle.amo_journal.specs.declared.version.Version.{Version}
use Rattle.amo_journal.specs.Fields.{IsAct, IsReply}
use Rattle.amo_journal.specs.Journal.{HasReply, InRange, act_fields, fields_of}
use Rattle.amo_journal.proofs.Fields.{text_of_line}
use Rattle.amo_journal.proofs.InFront.{act_fits, reply_fits}
use Rattle.amo_disk.specs.Tail.{IsTooLong}

hex_some : (m : List ℕ) → 0 < length m → length (hex m) ≤ 2 * length m
hex_some [] some = absurd (omega arith)
hex_some (b ∷ m) some = let long = length-encode_with lower_digits (b ∷ m) in omega arith

hex_any : (m : List ℕ) → length (hex m) ≤ 2 * length m + 1
hex_any [] = omega arith
hex_any (b ∷ m) = let long = hex_some (b ∷ m) (omega arith) in omega arith

has_header : (p : OwnedPacket) → 0 < length (spelling p)
unfolding spelling
has_header p = omega arith

packet_short : (p : OwnedPacket) → IsSpellable p → length (hex (spelling p)) ≤ 8242
packet_short p known = let short = spelling_short p known in let long = hex_some (spelling p) (has_header p) in omega arith

word_short : (n : ℕ) → n < 2 ^ 64 → length (decimal n) ≤ 20
word_short n small = length-decimal-le 20 n (omega arith) (omega arith) small

delivery_short : (p : OwnedPacket) (word : ℕ) → IsSpellable p → word < 2 ^ 64 → length (text_of (act_fields (act.Deliver p word))) ≤ 8271
delivery_short p word known small = let packet = packet_short p known in let number = word_short word small in let both = length-append (hex (spelling p)) (32 ∷ decimal word) in omega arith

reply_short : (r : Reply) → IsReply r → length (reply_text r) ≤ 2053
reply_short reply.Ok known = omega arith
reply_short reply.Full known = omega arith
reply_short reply.Down known = omega arith
reply_short (reply.Got m) known = let long = hex_any m in omega (arith, known.0)
reply_short reply.Nothing known = omega arith
reply_short reply.Yes known = omega arith
reply_short reply.No known = omega arith
reply_short reply.NotYet known = omega arith
reply_short reply.Done known = omega arith

done_short : (p : OwnedPacket) (word : ℕ) (r : Reply) → HasReply (act.Deliver p word) r → length (reply_text r) ≤ 4
done_short p word reply.Done known = omega arith
done_short p word reply.Ok known = absurd known
done_short p word reply.Full known = absurd known
done_short p word reply.Down known = absurd known
done_short p word (reply.Got m) known = absurd known
done_short p word reply.Nothing known = absurd known
done_short p word reply.Yes known = absurd known
done_short p word reply.No known = absurd known
done_short p word reply.NotYet known = absurd known

both_short : (a : Act) (r : Reply) → IsAct a → HasReply a r → length (text_of (act_fields a)) + length (reply_text r) ≤ 8275
both_short (act.Deliver p word) r fits known = let first = delivery_short p word fits.0.0 fits.1 in let second = done_short p word r known in omega arith
both_short (act.Put m) r fits known = let first = hex_any m in let second = reply_short r (reply_fits (act.Put m) r known) in omega (arith, fits.0)
both_short (act.Start word) r fits known = let first = word_short word fits in let second = reply_short r (reply_fits (act.Start word) r known) in omega arith
both_short (act.Batch word) r fits known = let first = word_short word fits in let second = reply_short r (reply_fits (act.Batch word) r known) in omega arith
both_short act.Get r fits known = let second = reply_short r (reply_fits act.Get r known) in omega arith
both_short act.Ack r fits known = let second = reply_short r (reply_fits act.Ack r known) in omega arith
both_short act.Resend r fits known = let second = reply_short r (reply_fits act.Resend r known) in omega arith
both_short act.Crash r fits known = let second = reply_short r (reply_fits act.Crash r known) in omega arith
both_short act.Recover r fits known = let second = reply_short r (reply_fits act.Recover r known) in omega arith

one_letter : (side : End) → length (letter_of side) ≡ 1
one_letter Sender = refl
one_letter Receiver = refl

parts_short : (number pass letter stream a r : List ℕ) → length number ≤ 20 → length pass ≤ 2 → length letter ≡ 1 → length stream ≤ 3 → length a + length r ≤ 8275
    → length (number ++ 32 ∷ (pass ++ 32 ∷ (letter ++ 32 ∷ (stream ++ 32 ∷ (a ++ 32 ∷ r))))) ≤ 8306
parts_short number pass letter stream a r one two three four five =
    simp length-append (omega arith)

-- each line of an event is as long at most
pub line_short : (version : Version) (line : Numbered) → InRange version line → length (text_of (fields_of line)) ≤ 8306
line_short version line known =
    let e = line.event in
    let is = ap length (text_of_line line) in
    let short = parts_short (decimal line.number) (decimal e.pass) (letter_of e.side) (decimal e.stream) (text_of (act_fields e.act)) (reply_text e.reply)
    (word_short line.number known.0) (length-decimal-le 2 e.pass (omega arith) (omega (arith, known.1.pass)) (omega (arith, known.1.pass))) (one_letter e.side)
    (length-decimal-le 3 e.stream (omega arith) (omega (arith, known.1.stream.1)) (omega (arith, known.1.stream.1))) (both_short e.act e.reply (act_fits version e.side e.stream e.act known.1.act) known.1.reply) in
    omega (arith, is, short)

-- a text with a longer part is that of none
pub too_long : (rest text : List ℕ) → 8306 < length rest + length text → IsTooLong (rest ++ text)
too_long rest text long = λ version line known.
    let short = line_short version line known in let both = length-append rest text in
    omega arith
