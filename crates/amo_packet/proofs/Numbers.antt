-- Numbers of eight, four and two bytes, at the front of a list of bytes.
use Rattle.std.proofs.Common.{◌≡◌, ◌<◌, ◌≤◌, ◌^◌, ℕ, zero, suc, ◌+◌, List, ◌++◌, length, get_or, drop, All, sym, ap, ◌∙◌, rules, arith, inl, inr}
use Rattle.std.specs.Int.{byte_at}
use Rattle.std.proofs.lemmas.Bool.{cases_lt}
use Rattle.std.proofs.lemmas.List.Elements.{All-nil, All-cons}
use Rattle.std.proofs.lemmas.List.{drop_at, get_or_past, get_or-drop}
use Rattle.std.proofs.lemmas.Nat.{be_bytes_8}
use Rattle.byteorder.specs.Endian.{big_number, big_bytes}
use Rattle.byteorder.specs.Numbers.{big_number-reads_back, length-bytes_high_first}

-- each item is a byte
abbrev pub AreBytes : List ℕ → Type 0
AreBytes xs = (i : ℕ) → get_or xs i 0 < 256

pub AreBytes-drop : (n : ℕ) (xs : List ℕ) → AreBytes xs → AreBytes (drop n xs)
AreBytes-drop n xs h i = rw get_or-drop (h (n + i))

pub AreBytes-from_All : (xs : List ℕ) → All (λ b. b < 256) xs → AreBytes xs
AreBytes-from_All xs h i = elim (cases_lt i (length xs)) [
  | inl lt ↦ h i 0 lt
  | inr le ↦ rw (get_or_past xs i 0 le) (omega arith)
]

byte_at-below : (k n : ℕ) → byte_at k n < 256
byte_at-below zero n = omega arith
byte_at-below (suc k) n = omega arith

-- a number is written in bytes
pub All-big_bytes : (n x : ℕ) → All (λ b. b < 256) (big_bytes n x)
All-big_bytes zero x = All-nil (λ b. b < 256)
All-big_bytes (suc n) x = All-cons (λ b. b < 256) (byte_at n x) (big_bytes n x) (byte_at-below n x) (All-big_bytes n x)

-- a number read from the front stands there
pub big_bytes-of_8 : (xs : List ℕ) (n : ℕ) → 8 ≤ length xs → AreBytes xs → n ≡ big_number 8 xs → xs ≡ big_bytes 8 n ++ drop 8 xs
big_bytes-of_8 xs n long fits e = search rules

pub big_bytes-of_4 : (xs : List ℕ) (n : ℕ) → 4 ≤ length xs → AreBytes xs → n ≡ big_number 4 xs → xs ≡ big_bytes 4 n ++ drop 4 xs
big_bytes-of_4 xs n long fits e = search rules

pub big_bytes-of_2 : (xs : List ℕ) (n : ℕ) → 2 ≤ length xs → AreBytes xs → n ≡ big_number 2 xs → xs ≡ big_bytes 2 n ++ drop 2 xs
big_bytes-of_2 xs n long fits e = search rules

-- and where nothing follows it, it is all that stands there
pub big_bytes-all_8 : (xs : List ℕ) (n : ℕ) → length xs ≡ 8 → AreBytes xs → n ≡ big_number 8 xs → xs ≡ big_bytes 8 n
big_bytes-all_8 xs n long fits e = sym (be_bytes_8 xs n long fits (omega arith))

-- where two numbers of the same width begin the same list, they are one, and so are the bytes after them
pub big_bytes-cancel : (n a b : ℕ) (x y : List ℕ) → a < 256 ^ n → b < 256 ^ n → big_bytes n a ++ x ≡ big_bytes n b ++ y → (a ≡ b) × (x ≡ y)
big_bytes-cancel n a b x y small small' e = (
  sym (big_number-reads_back n a x small) ∙ ap (big_number n) e ∙ big_number-reads_back n b y small',
  sym (drop_at (big_bytes n a) x n (length-bytes_high_first n a)) ∙ ap (drop n) e ∙ drop_at (big_bytes n b) y n (length-bytes_high_first n b),
)
