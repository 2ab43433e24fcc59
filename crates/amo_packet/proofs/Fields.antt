-- What a kind's fields say: the numbers read from them are those that they spell.
use Rattle.std.proofs.Common.{◌≡◌, ◌<◌, ◌≤◌, ◌^◌, ◌%◌, ℕ, suc, Bool, List, [], ◌∷◌, ◌++◌, length, get_or, drop, Result, Ok, Err, None, refl, subst, sym, ap, ◌∙◌, arith}
use Rattle.std.specs.List.{AllByRecursion}
use Rattle.std.proofs.lemmas.List.{drop-drop, length-drop, drop_all, drop_more}
use Rattle.byteorder.specs.Endian.{big_bytes, big_number}
use Rattle.byteorder.specs.Numbers.{big_from-lt}
use Rattle.amo_packet.specs.declared.fault.ReadFault.{ReadFault}
use Rattle.amo_packet.specs.declared.packet.Body.{Body}
use Rattle.amo_packet.specs.declared.packet.OwnedBody.{OwnedBody}
use Rattle.amo_packet.specs.declared.packet.OwnedBody.TheVariants.{NeedUid, Accept, Send, Ack, Cleanup, Batch}
use Rattle.amo_packet.specs.Packet.{body_of}
use Rattle.amo_packet.specs.Batch.{messages, batch_from}
use Rattle.amo_packet.specs.Lent.{split}
use Rattle.amo_packet.specs.Fault.{first_of, message_faults, first_fault}
use Rattle.amo_packet.specs.Grammar.{header, flag, version_of, kind_of, parts, fields_of, spelling, CanBeWritten, FitsFields, Spells}
use Rattle.amo_packet.specs.Message.{IsShort}
use Rattle.amo_packet.specs.Reading.{IsReading, IsReadingUpTo}
use Rattle.amo_packet.proofs.Batches.{messages-batch_from}
use Rattle.amo_packet.proofs.MessageFaults.{length-split, split_spells}
use Rattle.amo_packet.proofs.Numbers.{AreBytes, AreBytes-drop, big_bytes-of_8, big_bytes-of_4, big_bytes-of_2, big_bytes-all_8}

-- a header and the fields of a packet spell it
Spells-fields : (newest stream : ℕ) (b : OwnedBody) (fields : List ℕ) → version_of b ≤ newest → stream < 2 ^ 32 → FitsFields b → CanBeWritten b → fields ≡ fields_of b
    → Spells newest (header (version_of b) (kind_of b) stream ++ fields) (record { stream = stream; body = b })
unfolding spelling
Spells-fields newest stream b fields v s f short e = record {
  version = v;
  fits = record { stream = s; identifiers = f; messages = short };
  exact = ap (λ (xs : List ℕ). header (version_of b) (kind_of b) stream ++ xs) e;
}

-- what is as long as a header is two numbers of four bytes, and fields
pub header_read : (bytes : List ℕ) → 8 ≤ length bytes → AreBytes bytes → bytes ≡ big_bytes 4 (big_number 4 bytes) ++ big_bytes 4 (big_number 4 (drop 4 bytes)) ++ drop 8 bytes
header_read bytes long fits =
    let front = big_bytes-of_4 bytes (big_number 4 bytes) (omega arith) fits refl in
    let back = big_bytes-of_4 (drop 4 bytes) (big_number 4 (drop 4 bytes)) (omega (arith, length-drop 4 bytes)) (AreBytes-drop 4 bytes fits) refl in
    front ∙ ap (λ (xs : List ℕ). big_bytes 4 (big_number 4 bytes) ++ xs) (back ∙ ap (λ (xs : List ℕ). big_bytes 4 (big_number 4 (drop 4 bytes)) ++ xs) (drop-drop 4 4 bytes))

read_whole : (newest version kind stream : ℕ) (bytes fields : List ℕ) (r : Result Body ReadFault) → 1 ≤ version → version ≤ newest → stream < 2 ^ 32
    → stream ≡ big_number 4 (drop 4 bytes) → header version kind stream ++ fields ≡ bytes → IsReading version kind fields r → IsReadingUpTo newest bytes r
read_whole newest version kind stream bytes fields (Ok body) one v small is whole h =
    subst (λ (n : ℕ). Spells newest bytes (record { stream = n; body = body_of body })) is
    (subst (λ (xs : List ℕ). Spells newest xs (record { stream = stream; body = body_of body })) whole (h newest stream v small))
read_whole newest version kind stream bytes fields (Err fault) one v small is whole h = ap (first_fault newest) (sym whole) ∙ h newest stream one v

-- what starts as a packet of a kind is read as its fields are
pub start_known : (newest version kind : ℕ) (bytes fields : List ℕ) (r : Result Body ReadFault) → 1 ≤ version → version ≤ newest → 8 ≤ length bytes → AreBytes bytes
    → big_bytes 4 (big_number 4 bytes) ≡ 0x41 ∷ 0x4D ∷ version ∷ kind ∷ [] → fields ≡ drop 8 bytes → IsReading version kind fields r → IsReadingUpTo newest bytes r
start_known newest version kind bytes fields r one v long fits is behind h =
    let stream = big_number 4 (drop 4 bytes) in
    let small : stream < 2 ^ 32 = big_from-lt 0 4 (drop 4 bytes) (AreBytes-drop 4 bytes fits) in
    let whole : header version kind stream ++ fields ≡ bytes =
    ap (λ (xs : List ℕ). header version kind stream ++ xs) behind ∙ sym (header_read bytes long fits ∙ ap (λ (xs : List ℕ). xs ++ big_bytes 4 stream ++ drop 8 bytes) is) in
    read_whole newest version kind stream bytes fields r one v small refl whole h

-- what begins as a packet is a header and fields
pub header_said : (bytes : List ℕ) (stream : ℕ) → 8 ≤ length bytes → AreBytes bytes → get_or bytes 0 0 ≡ 0x41 → get_or bytes 1 0 ≡ 0x4D → stream ≡ big_number 4 (drop 4 bytes)
    → bytes ≡ header (get_or bytes 2 0) (get_or bytes 3 0) stream ++ drop 8 bytes
header_said (a ∷ b ∷ c ∷ d ∷ rest) stream long fits first second is =
    let back = big_bytes-of_4 rest stream (omega arith) (λ i. fits (suc (suc (suc (suc i))))) is in
    cc
header_said bytes stream long fits first second is = absurd (omega arith)

pub needuid_said : (newest stream jd : ℕ) (fields : List ℕ) → 1 ≤ newest → stream < 2 ^ 32 → jd < 2 ^ 64 → AreBytes fields → length fields ≡ 8 → jd ≡ big_number 8 fields
    → Spells newest (header 1 1 stream ++ fields) (record { stream = stream; body = NeedUid jd })
needuid_said newest stream jd fields v s f bytes len is = Spells-fields newest stream (NeedUid jd) fields v s f tt (big_bytes-all_8 fields jd len bytes is)

pub accept_said : (newest stream jd id : ℕ) (fields : List ℕ) → 1 ≤ newest → stream < 2 ^ 32 → jd < 2 ^ 64 → id < 2 ^ 64 → AreBytes fields → length fields ≡ 16 → jd ≡ big_number 8 fields → id ≡ big_number 8 (drop 8 fields)
    → Spells newest (header 1 2 stream ++ fields) (record { stream = stream; body = Accept jd id })
accept_said newest stream jd id fields v s f f' bytes len is is' =
    let front = big_bytes-of_8 fields jd (omega arith) bytes is in
    let back = big_bytes-all_8 (drop 8 fields) id (omega (arith, length-drop 8 fields)) (AreBytes-drop 8 fields bytes) is' in
    Spells-fields newest stream (Accept jd id) fields v s (f, f') tt (front ∙ ap (λ (xs : List ℕ). big_bytes 8 jd ++ xs) back)

pub send_said : (newest stream id : ℕ) (message fields : List ℕ) → 1 ≤ newest → stream < 2 ^ 32 → id < 2 ^ 64 → IsShort message → AreBytes fields → 10 ≤ length fields → id ≡ big_number 8 fields → length message ≡ big_number 2 (drop 8 fields) → message ≡ drop 10 fields
    → Spells newest (header 1 3 stream ++ fields) (record { stream = stream; body = Send id message })
send_said newest stream id message fields v s f short bytes len is is' rest =
    let front = big_bytes-of_8 fields id (omega arith) bytes is in
    let middle = big_bytes-of_2 (drop 8 fields) (length message) (omega (arith, length-drop 8 fields)) (AreBytes-drop 8 fields bytes) is' in
    let back : drop 2 (drop 8 fields) ≡ message = drop-drop 2 8 fields ∙ sym rest in
    Spells-fields newest stream (Send id message) fields v s f (short, tt) (front ∙ ap (λ (xs : List ℕ). big_bytes 8 id ++ xs) (middle ∙ ap (λ (xs : List ℕ). big_bytes 2 (length message) ++ xs) back))

pub ack_said : (newest stream id : ℕ) (got : Bool) (fields : List ℕ) → 1 ≤ newest → stream < 2 ^ 32 → id < 2 ^ 64 → AreBytes fields → length fields ≡ 9 → id ≡ big_number 8 fields → get_or fields 8 0 ≡ flag got
    → Spells newest (header 1 4 stream ++ fields) (record { stream = stream; body = Ack id got })
ack_said newest stream id got fields v s f bytes len is is' =
    let front = big_bytes-of_8 fields id (omega arith) bytes is in
    let back : drop 8 fields ≡ flag got ∷ [] = drop_more fields 8 0 (omega arith) ∙ cc (is', drop_all 9 fields (omega arith)) in
    Spells-fields newest stream (Ack id got) fields v s f tt (front ∙ ap (λ (xs : List ℕ). big_bytes 8 id ++ xs) back)

pub cleanup_said : (newest stream id : ℕ) (fields : List ℕ) → 1 ≤ newest → stream < 2 ^ 32 → id < 2 ^ 64 → AreBytes fields → length fields ≡ 8 → id ≡ big_number 8 fields
    → Spells newest (header 1 5 stream ++ fields) (record { stream = stream; body = Cleanup id })
cleanup_said newest stream id fields v s f bytes len is = Spells-fields newest stream (Cleanup id) fields v s f tt (big_bytes-all_8 fields id len bytes is)

pub batch_said : (newest stream id count : ℕ) (fields : List ℕ) → 2 ≤ newest → stream < 2 ^ 32 → id < 2 ^ 64 → AreBytes fields → 9 ≤ length fields → id ≡ big_number 8 fields
    → count ≡ get_or fields 8 0 → 1 ≤ count → count ≤ 4 → first_of (message_faults count (drop 9 fields)) ≡ None
    → Spells newest (header 2 6 stream ++ fields) (record { stream = stream; body = Batch id (batch_from (split count (drop 9 fields))) })
batch_said newest stream id count fields v s f bytes long is is' some most faultless =
    let ms = split count (drop 9 fields) in
    let len = length-split count (drop 9 fields) in
    let carried = split_spells count (drop 9 fields) (AreBytes-drop 9 fields bytes) faultless in
    let all : messages (batch_from ms) ≡ ms = messages-batch_from ms (omega arith) in
    let few : length (batch_from ms).rest ≤ 3 = omega (arith, ap length all) in
    let front = big_bytes-of_8 fields id (omega arith) bytes is in
    let byte : get_or fields 8 0 ≡ length ms % 256 = omega arith in
    let back : drop 8 fields ≡ big_bytes 1 (length ms) ++ parts ms = drop_more fields 8 0 (omega arith) ∙ cc (byte, carried.exact) in
    Spells-fields newest stream (Batch id (batch_from ms)) fields v s (f, few) (subst (λ (xs : List (List ℕ)). AllByRecursion IsShort xs) (sym all) carried.short)
    (front ∙ ap (λ (xs : List ℕ). big_bytes 8 id ++ xs) back ∙ ap (λ (xs : List (List ℕ)). big_bytes 8 id ++ big_bytes 1 (length xs) ++ parts xs) (sym all))
