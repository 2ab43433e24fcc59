-- The messages of batches: how long what spells them is, and that it spells no others.
use Rattle.std.proofs.Common.{◌≡◌, ◌<◌, ◌≤◌, ◌+◌, ◌*◌, ℕ, List, [], ◌∷◌, ◌++◌, length, take, drop, All, refl, sym, ap, ◌∙◌, arith, append_assoc, length-append}
use Rattle.std.specs.List.{AllByRecursion, sum_by}
use Rattle.std.proofs.lemmas.List.{take_at, drop_at}
use Rattle.std.proofs.lemmas.List.Sums.{sum_by-cons}
use Rattle.std.proofs.lemmas.List.Elements.{All-nil, All-append}
use Rattle.byteorder.specs.Endian.{big_bytes}
use Rattle.amo_packet.specs.Message.{IsShort}
use Rattle.amo_packet.specs.Batch as batch
use Rattle.amo_packet.specs.Batch.{messages, batch_from}
use Rattle.amo_packet.specs.Grammar.{parts}
use Rattle.amo_packet.proofs.Numbers.{All-big_bytes, big_bytes-cancel}

-- a batch is its messages
pub batch_is : (a b : batch.Batch) → messages a ≡ messages b → a ≡ b
batch_is a b e =
    let first : a.first ≡ b.first = cc in
    let rest : a.rest ≡ b.rest = cc in
    λ i. record { first = first i; rest = rest i }

-- a list that is not empty is that of its batch
pub messages-batch_from : (ms : List (List ℕ)) → 1 ≤ length ms → messages (batch_from ms) ≡ ms
messages-batch_from [] some = absurd (omega arith)
messages-batch_from (m ∷ ms) some = refl

pub length-parts : (ms : List (List ℕ)) → length (parts ms) ≡ sum_by (λ m. 2 + length m) ms
length-parts [] = refl
length-parts (m ∷ ms) = omega (arith, length-append m (parts ms), sum_by-cons (λ (x : List ℕ). 2 + length x) m ms, length-parts ms)

pub parts_short : (ms : List (List ℕ)) → AllByRecursion IsShort ms → length (parts ms) ≤ 1026 * length ms
parts_short [] h = omega arith
parts_short (m ∷ ms) h = omega (arith, length-append m (parts ms), parts_short ms h.1, h.0)

pub message-cancel : (m m' x y : List ℕ) → length m ≡ length m' → m ++ x ≡ m' ++ y → (m ≡ m') × (x ≡ y)
message-cancel m m' x y len e = (
  sym (take_at m x (length m') len) ∙ ap (take (length m')) e ∙ take_at m' y (length m') refl,
  sym (drop_at m x (length m') len) ∙ ap (drop (length m')) e ∙ drop_at m' y (length m') refl,
)

-- as many messages are told from any others
pub parts-cancel : (ms ns : List (List ℕ)) (x y : List ℕ) → length ms ≡ length ns → AllByRecursion IsShort ms → AllByRecursion IsShort ns
    → parts ms ++ x ≡ parts ns ++ y → (ms ≡ ns) × (x ≡ y)
parts-cancel [] [] x y len f g e = (refl, e)
parts-cancel [] (n ∷ ns) x y len f g e = absurd (omega arith)
parts-cancel (m ∷ ms) [] x y len f g e = absurd (omega arith)
parts-cancel (m ∷ ms) (n ∷ ns) x y len f g e =
    let w = big_bytes-cancel 2 (length m) (length n) ((m ++ parts ms) ++ x) ((n ++ parts ns) ++ y) (omega (arith, f.0)) (omega (arith, g.0)) e in
    let u = message-cancel m n (parts ms ++ x) (parts ns ++ y) w.0 (sym (append_assoc m (parts ms) x) ∙ w.1 ∙ append_assoc n (parts ns) y) in
    let v = parts-cancel ms ns x y (omega arith) f.1 g.1 u.1 in
    (cc, v.1)

-- messages of bytes are spelt by bytes
pub All-parts : (ms : List (List ℕ)) → AllByRecursion (All (λ b. b < 256)) ms → All (λ b. b < 256) (parts ms)
All-parts [] h = All-nil (λ b. b < 256)
All-parts (m ∷ ms) h =
    All-append (λ b. b < 256) (big_bytes 2 (length m) ++ m) (parts ms) (All-append (λ b. b < 256) (big_bytes 2 (length m)) m (All-big_bytes 2 (length m)) h.0) (All-parts ms h.1)
