-- What is written behind the beginning of a buffer.
use Rattle.std.proofs.Common.{◌≡◌, ℕ, ◌+◌, ◌-◌, List, ◌∷◌, ◌++◌, length, take, drop, sym, ap, ◌∙◌, arith, append_assoc, length-append}
use Rattle.std.proofs.lemmas.List.{take_at, drop_at, drop-drop, drop_all, take_rest, length-drop, append-nil}
use Rattle.byteorder.specs.Endian.{big_bytes}
use Rattle.amo_packet.specs.Batch.{Batch, messages}
use Rattle.amo_packet.specs.Grammar.{parts}
use borrow.Rule.Slice.PartMut.{put_mid, mid_of}

-- what is written from a place on to the end stands behind what stood before it
put_behind : (n : ℕ) (xs ys : List ℕ) → put_mid n (length xs - n) xs ys ≡ take n xs ++ ys
put_behind n xs ys =
    ap (λ (zs : List ℕ). take n xs ++ (ys ++ zs)) (drop_all (length xs - n) (drop n xs) (omega (arith, length-drop n xs)))
    ∙ ap (λ (zs : List ℕ). take n xs ++ zs) (append-nil ys)

-- a message, and then more behind it
message_written : (m more old with_first new : List ℕ) → with_first ≡ big_bytes 2 (length m) ++ m ++ drop (2 + length m) old
    → new ≡ more ++ drop (length more) (mid_of (2 + length m) (length with_first - (2 + length m)) with_first)
    → put_mid (2 + length m) (length with_first - (2 + length m)) with_first new ≡ big_bytes 2 (length m) ++ m ++ more ++ drop (length (big_bytes 2 (length m) ++ m ++ more)) old
message_written m more old with_first new e e' =
    let n = 2 + length m in
    let front = big_bytes 2 (length m) ++ m in
    let len : length front ≡ n = omega arith in
    let kept : take n with_first ≡ front = ap (take n) e ∙ take_at front (drop n old) n len in
    let behind : drop n with_first ≡ drop n old = ap (drop n) e ∙ drop_at front (drop n old) n len in
    let all : n + length more ≡ length (front ++ more) = omega (arith, length-append m more) in
    let written : new ≡ more ++ drop (length (front ++ more)) old =
    e' ∙ ap (λ (xs : List ℕ). more ++ drop (length more) xs) (take_rest with_first n ∙ behind)
    ∙ ap (λ (xs : List ℕ). more ++ xs) (drop-drop (length more) n old ∙ ap (λ (k : ℕ). drop k old) all) in
    put_behind n with_first new ∙ ap (λ (xs : List ℕ). xs ++ new) kept ∙ ap (λ (xs : List ℕ). front ++ xs) written
    ∙ sym (append_assoc front more (drop (length (front ++ more)) old))

-- the messages of a batch, the first and then those behind it
pub messages_written : (b : Batch) (m : List ℕ) (ms : List (List ℕ)) (old with_first new : List ℕ) → m ≡ b.first → b.rest ≡ ms
    → with_first ≡ big_bytes 2 (length m) ++ m ++ drop (2 + length m) old
    → new ≡ parts ms ++ drop (length (parts ms)) (mid_of (2 + length m) (length with_first - (2 + length m)) with_first)
    → put_mid (2 + length m) (length with_first - (2 + length m)) with_first new ≡ parts (messages b) ++ drop (length (parts (messages b))) old
messages_written b m ms old with_first new first rest e e' =
    message_written m (parts ms) old with_first new e e'
    ∙ ap (λ (x : List ℕ). parts (x ∷ ms) ++ drop (length (parts (x ∷ ms))) old) first
    ∙ ap (λ (xs : List (List ℕ)). parts (b.first ∷ xs) ++ drop (length (parts (b.first ∷ xs))) old) (sym rest)
