-- What is written in pieces.
use Rattle.std.proofs.Common.{ℕ, ◌+◌, ◌-◌, ◌≤◌, Option, Some, None, List, [], ◌++◌, take, drop, min, length, refl, sym, ◌∙◌, ap, append_assoc, length-drop, arith}
use Rattle.std.proofs.lemmas.List.{take_rest, take_all, take_at, take_min, take-append-le, drop_at, append-nil}
use Rattle.std.proofs.Math.Seq.{take-add}
use Rattle.std.specs.Io.KnownBytes.{Appends, Keeps}
use Rattle.amo_text.specs.Sink.{AppendsFront}

-- no bytes
pub Appends-nil : (a : Option (List ℕ)) → Appends a a []
Appends-nil None = tt
Appends-nil (Some u) = sym (append-nil u)

-- one text, and then another
pub Appends-append : (a b c : Option (List ℕ)) (xs ys : List ℕ) → Appends a b xs → Appends b c ys → Appends a c (xs ++ ys)
Appends-append None b c xs ys first second = tt
Appends-append (Some u) None c xs ys first second = absurd first
Appends-append (Some u) (Some v) None xs ys first second = absurd second
Appends-append (Some u) (Some v) (Some w) xs ys first second = second ∙ ap (λ t. t ++ ys) first ∙ append_assoc u xs ys

-- a text, and then nothing
pub Appends-Keeps : (a b c : Option (List ℕ)) (xs : List ℕ) → Appends a b xs → Keeps b c → Appends a c xs
Appends-Keeps None b c xs first kept = tt
Appends-Keeps (Some u) None c xs first kept = absurd first
Appends-Keeps (Some u) (Some v) None xs first kept = absurd kept
Appends-Keeps (Some u) (Some v) (Some w) xs first kept = kept ∙ first

-- the first i bytes, and then the first n of the others
pub Appends-more : (a b c : Option (List ℕ)) (xs : List ℕ) (i n : ℕ) → Appends a b (take i xs) → Appends b c (take n (take (length xs - i) (drop i xs))) → Appends a c (take (i + n) xs)
Appends-more a b c xs i n first second =
    rw (take-add i n xs) (Appends-append a b c (take i xs) (take n (drop i xs)) first (rw (take_rest xs i) at second))

-- those are no more than there are
pub within_rest : (xs : List ℕ) (i n : ℕ) → i ≤ length xs → n ≤ length (take (length xs - i) (drop i xs)) → i + n ≤ length xs
within_rest xs i n within fits = let left : n ≤ length (drop i xs) = rw (← take_rest xs i) fits in omega (arith, length-drop i xs)

-- all of a text is a beginning of it
pub AppendsFront-Appends : (a b : Option (List ℕ)) (xs : List ℕ) → Appends a b xs → AppendsFront a b xs
AppendsFront-Appends a b xs all = (length xs, rw (take_all (length xs) xs (omega arith)) all)

-- nothing is a beginning of any text
pub AppendsFront-Keeps : (a b : Option (List ℕ)) (xs : List ℕ) → Keeps a b → AppendsFront a b xs
AppendsFront-Keeps a b xs kept = (0, Appends-Keeps a a b [] (Appends-nil a) kept)

-- a beginning of a text is one of a longer text
pub AppendsFront-longer : (a b : Option (List ℕ)) (xs ys : List ℕ) → AppendsFront a b xs → AppendsFront a b (xs ++ ys)
AppendsFront-longer a b xs ys (n, front) = (min n (length xs), rw (take-append-le (min n (length xs)) xs ys (omega arith), take_min n xs) front)

-- a whole text, and then a beginning of another
pub AppendsFront-append : (a b c : Option (List ℕ)) (xs ys : List ℕ) → Appends a b xs → AppendsFront b c ys → AppendsFront a c (xs ++ ys)
AppendsFront-append a b c xs ys first (n, second) = (length xs + n, rw (take-add (length xs) n (xs ++ ys), take_at xs ys (length xs) refl, drop_at xs ys (length xs) refl) (Appends-append a b c xs (take n ys) first second))
