-- Spellings: how long they are, and that none begins another.
use Rattle.std.proofs.Common.{◌≡◌, ◌<◌, ◌≤◌, ◌+◌, ℕ, Bool, true, false, List, [], ◌∷◌, ◌++◌, length, drop, slice_index, All, refl, sym, ap, ◌∙◌, arith}
use Rattle.std.specs.List.{AllByRecursion, sum_by}
use Rattle.std.proofs.lemmas.List.Elements.{All-nil, All-cons, All-append}
use Rattle.byteorder.specs.Endian.{big_bytes}
use Rattle.amo_packet.specs.declared.packet.OwnedPacket.{OwnedPacket}
use Rattle.amo_packet.specs.declared.packet.OwnedBody.{OwnedBody}
use Rattle.amo_packet.specs.declared.packet.OwnedBody.TheVariants.{NeedUid, Accept, Send, Ack, Cleanup, Batch}
use Rattle.amo_packet.specs.Grammar.{header, flag, version_of, kind_of, parts, fields_of, messages_of, spelling, CanBeWritten, FitsFields, IsSpellable, Spells}
use Rattle.amo_packet.specs.Batch as batch
use Rattle.amo_packet.specs.Batch.{messages}
use Rattle.amo_packet.specs.Fault.{fixed_length, length_in}
use Rattle.amo_packet.proofs.Numbers.{All-big_bytes, big_bytes-cancel}
use Rattle.amo_packet.proofs.Batches.{batch_is, length-parts, parts_short, message-cancel, parts-cancel, All-parts}

-- ---- lengths

-- a spelling is as long as its kind's fixed part and its messages
length-fields : (b : OwnedBody) → 8 + length (fields_of b) ≡ fixed_length (kind_of b) + sum_by (length_in (kind_of b)) (messages_of b)
length-fields (NeedUid jd) = refl
length-fields (Accept jd id) = refl
length-fields (Send id message) = omega arith
length-fields (Ack id got) = refl
length-fields (Cleanup id) = refl
length-fields (Batch id b) = omega (arith, length-parts (messages b))

pub length-spelling : (p : OwnedPacket) → length (spelling p) ≡ fixed_length (kind_of p.body) + sum_by (length_in (kind_of p.body)) (messages_of p.body)
unfolding spelling
length-spelling p = omega (arith, length-fields p.body)

pub fields_short : (b : OwnedBody) → FitsFields b → CanBeWritten b → length (fields_of b) ≤ 4113
fields_short (NeedUid jd) f short = omega arith
fields_short (Accept jd id) f short = omega arith
fields_short (Send id message) f short = omega arith
fields_short (Ack id got) f short = omega arith
fields_short (Cleanup id) f short = omega arith
fields_short (Batch id b) f short = omega (arith, parts_short (messages b) short, f.1)

-- the longest spelling is that of four of the longest messages
pub spelling_short : (p : OwnedPacket) → IsSpellable p → length (spelling p) ≤ 4121
unfolding spelling
spelling_short p f = omega (arith, fields_short p.body f.identifiers f.messages)

-- the longest of the first version is that of a send of the longest message
length_1 : (b : OwnedBody) → version_of b ≤ 1 → CanBeWritten b → length (fields_of b) ≤ 1034
length_1 (NeedUid jd) v f = omega arith
length_1 (Accept jd id) v f = omega arith
length_1 (Send id message) v f = omega (arith, f.0)
length_1 (Ack id got) v f = omega arith
length_1 (Cleanup id) v f = omega arith
length_1 (Batch id b) v f = absurd (omega arith)

pub spelling_short_1 : (p : OwnedPacket) → version_of p.body ≤ 1 → IsSpellable p → length (spelling p) ≤ 1042
unfolding spelling
spelling_short_1 p v f = omega (arith, length_1 p.body v f.messages)

-- ---- no spelling begins another

flag-cancel : (a b : Bool) → flag a ≡ flag b → a ≡ b
flag-cancel false false e = refl
flag-cancel false true e = absurd (omega arith)
flag-cancel true false e = absurd (omega arith)
flag-cancel true true e = refl

abbrev Same : OwnedBody → OwnedBody → List ℕ → List ℕ → Type 0
Same a b x y = (a ≡ b) × (x ≡ y)

same_fields : (a b : OwnedBody) (x y : List ℕ) → FitsFields a → FitsFields b → CanBeWritten a → CanBeWritten b → kind_of a ≡ kind_of b
    → fields_of a ++ x ≡ fields_of b ++ y → Same a b x y
same_fields (NeedUid jd) (NeedUid jd') x y f f' short short' k e =
    let w = big_bytes-cancel 8 jd jd' x y f f' e in (ap NeedUid w.0, w.1)
same_fields (NeedUid jd) b x y f f' short short' k e = absurd (omega arith)
same_fields (Accept jd id) (Accept jd' id') x y f f' short short' k e =
    let v = big_bytes-cancel 8 jd jd' _ _ f.0 f'.0 e in
    let w = big_bytes-cancel 8 id id' x y f.1 f'.1 v.1 in
    (cc, w.1)
same_fields (Accept jd id) b x y f f' short short' k e = absurd (omega arith)
same_fields (Send id m) (Send id' m') x y f f' short short' k e =
    let v = big_bytes-cancel 8 id id' _ _ f f' e in
    let w = big_bytes-cancel 2 (length m) (length m') (m ++ x) (m' ++ y) (omega (arith, short.0)) (omega (arith, short'.0)) v.1 in
    let u = message-cancel m m' x y w.0 w.1 in
    (cc, u.1)
same_fields (Send id m) b x y f f' short short' k e = absurd (omega arith)
same_fields (Ack id got) (Ack id' got') x y f f' short short' k e =
    let v = big_bytes-cancel 8 id id' _ _ f f' e in
    let g = flag-cancel got got' (ap (λ (xs : List ℕ). slice_index xs 0) v.1) in
    (cc, ap (drop 1) v.1)
same_fields (Ack id got) b x y f f' short short' k e = absurd (omega arith)
same_fields (Cleanup id) (Cleanup id') x y f f' short short' k e =
    let w = big_bytes-cancel 8 id id' x y f f' e in (ap Cleanup w.0, w.1)
same_fields (Cleanup id) b x y f f' short short' k e = absurd (omega arith)
same_fields (Batch id b) (Batch id' b') x y f f' short short' k e =
    let v = big_bytes-cancel 8 id id' _ _ f.0 f'.0 e in
    let w = big_bytes-cancel 1 (length (messages b)) (length (messages b')) (parts (messages b) ++ x) (parts (messages b') ++ y) (omega (arith, f.1)) (omega (arith, f'.1)) v.1 in
    let u = parts-cancel (messages b) (messages b') x y w.0 short short' w.1 in
    (ap (λ (n : ℕ). Batch n b) v.0 ∙ ap (λ (c : batch.Batch). Batch id' c) (batch_is b b' u.0), u.1)
same_fields (Batch id b) c x y f f' short short' k e = absurd (omega arith)

same_packet : (s t : ℕ) (a b : OwnedBody) (p q : OwnedPacket) → p ≡ record { stream = s; body = a } → q ≡ record { stream = t; body = b } → s ≡ t → a ≡ b → p ≡ q
same_packet s t a b p q is is' e f = cc

-- no packet's spelling begins another's
pub spelling-cancel : (p q : OwnedPacket) (x y : List ℕ) → IsSpellable p → IsSpellable q → spelling p ++ x ≡ spelling q ++ y → (p ≡ q) × (x ≡ y)
unfolding spelling
spelling-cancel p q x y f f' e =
    let k : kind_of p.body ≡ kind_of q.body = ap (λ (xs : List ℕ). slice_index xs 3) e in
    let s = big_bytes-cancel 4 p.stream q.stream (fields_of p.body ++ x) (fields_of q.body ++ y) f.stream f'.stream (ap (drop 4) e) in
    let b = same_fields p.body q.body x y f.identifiers f'.identifiers f.messages f'.messages k s.1 in
    (same_packet p.stream q.stream p.body q.body p q refl refl s.0 b.0, b.1)

-- the bytes spell one packet
pub Spells-unique : (v w : ℕ) (bytes : List ℕ) (p q : OwnedPacket) → Spells v bytes p → Spells w bytes q → p ≡ q
Spells-unique v w bytes p q sp sq =
    (spelling-cancel p q [] [] sp.fits sq.fits (ap (λ (xs : List ℕ). xs ++ []) (sym sp.exact ∙ sq.exact))).0

-- ---- a spelling consists of bytes

abbrev IsByte : ℕ → Type 0
IsByte b = b < 256

flag-below : (got : Bool) → flag got < 256
flag-below false = omega arith
flag-below true = omega arith

All-fields_of : (b : OwnedBody) → AllByRecursion (All IsByte) (messages_of b) → All IsByte (fields_of b)
All-fields_of (NeedUid jd) h = All-big_bytes 8 jd
All-fields_of (Accept jd id) h = All-append IsByte (big_bytes 8 jd) (big_bytes 8 id) (All-big_bytes 8 jd) (All-big_bytes 8 id)
All-fields_of (Send id m) h =
    All-append IsByte (big_bytes 8 id ++ big_bytes 2 (length m)) m (All-append IsByte (big_bytes 8 id) (big_bytes 2 (length m)) (All-big_bytes 8 id) (All-big_bytes 2 (length m))) h.0
All-fields_of (Ack id got) h =
    All-append IsByte (big_bytes 8 id) (flag got ∷ []) (All-big_bytes 8 id) (All-cons IsByte (flag got) [] (flag-below got) (All-nil IsByte))
All-fields_of (Cleanup id) h = All-big_bytes 8 id
All-fields_of (Batch id b) h =
    All-append IsByte (big_bytes 8 id ++ big_bytes 1 (length (messages b))) (parts (messages b)) (All-append IsByte (big_bytes 8 id) (big_bytes 1 (length (messages b))) (All-big_bytes 8 id) (All-big_bytes 1 (length (messages b)))) (All-parts (messages b) h)

kind_of-below : (b : OwnedBody) → kind_of b < 256
kind_of-below (NeedUid jd) = omega arith
kind_of-below (Accept jd id) = omega arith
kind_of-below (Send id m) = omega arith
kind_of-below (Ack id got) = omega arith
kind_of-below (Cleanup id) = omega arith
kind_of-below (Batch id b) = omega arith

version_of-below : (b : OwnedBody) → version_of b < 256
version_of-below (NeedUid jd) = omega arith
version_of-below (Accept jd id) = omega arith
version_of-below (Send id m) = omega arith
version_of-below (Ack id got) = omega arith
version_of-below (Cleanup id) = omega arith
version_of-below (Batch id b) = omega arith

pub All-spelling : (p : OwnedPacket) → AllByRecursion (All IsByte) (messages_of p.body) → All IsByte (spelling p)
unfolding spelling
All-spelling p h =
    let stream = big_bytes 4 p.stream in
    let from_kind = All-cons IsByte (kind_of p.body) stream (kind_of-below p.body) (All-big_bytes 4 p.stream) in
    let from_version = All-cons IsByte (version_of p.body) (kind_of p.body ∷ stream) (version_of-below p.body) from_kind in
    let from_second = All-cons IsByte 0x4D (version_of p.body ∷ kind_of p.body ∷ stream) (omega arith) from_version in
    let whole = All-cons IsByte 0x41 (0x4D ∷ version_of p.body ∷ kind_of p.body ∷ stream) (omega arith) from_second in
    All-append IsByte (header (version_of p.body) (kind_of p.body) p.stream) (fields_of p.body) whole (All-fields_of p.body h)
