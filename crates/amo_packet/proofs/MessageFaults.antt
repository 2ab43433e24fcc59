-- The faults of messages that stand one after another, each behind its length.
use Rattle.std.proofs.Common.{◌≡◌, ◌<◌, ◌≤◌, ◌+◌, ℕ, zero, suc, List, [], ◌∷◌, ◌++◌, length, take, drop, Some, None, refl, sym, ap, ◌∙◌, arith, length-append}
use Rattle.std.specs.List.{AllByRecursion}
use Rattle.std.proofs.lemmas.Bool.Decides.{nat_tests}
use Rattle.std.proofs.lemmas.List.{drop_at, length-drop, length-take-le, take-append-drop}
use Rattle.byteorder.specs.Endian.{big_bytes, big_number}
use Rattle.byteorder.specs.Numbers.{big_number-reads_back}
use Rattle.amo_packet.specs.declared.fault.ReadFault.TheVariants.{Short, Length}
use Rattle.amo_packet.specs.Message.{IsShort, max_message}
use Rattle.amo_packet.specs.Grammar.{parts}
use Rattle.amo_packet.specs.Fault.{first_of, message_faults}
use Rattle.amo_packet.specs.Lent.{split}
use Rattle.amo_packet.proofs.Numbers.{AreBytes, AreBytes-drop, big_bytes-of_2}

-- ---- the first message decides, or those after it do

pub message_missing : (n : ℕ) (bytes : List ℕ) → length bytes < 2 → first_of (message_faults (suc n) bytes) ≡ Some Short
message_missing n bytes h = grind (arith, nat_tests)

pub message_too_long : (n : ℕ) (bytes : List ℕ) → 2 ≤ length bytes → max_message < big_number 2 bytes → first_of (message_faults (suc n) bytes) ≡ Some Length
message_too_long n bytes h over = grind (arith, nat_tests)

pub message_cut : (n : ℕ) (bytes : List ℕ) → 2 ≤ length bytes → big_number 2 bytes ≤ max_message → length bytes < 2 + big_number 2 bytes
    → first_of (message_faults (suc n) bytes) ≡ Some Short
message_cut n bytes h short cut = grind (arith, nat_tests)

pub message_there : (n given : ℕ) (bytes rest : List ℕ) → given ≡ big_number 2 bytes → rest ≡ drop given (drop 2 bytes) → 2 ≤ length bytes → given ≤ max_message → 2 + given ≤ length bytes
    → first_of (message_faults (suc n) bytes) ≡ first_of (message_faults n rest)
message_there n given bytes rest is past h short whole = grind (arith, nat_tests)

-- a message that is spelt leaves the fault to what follows it
pub message_spelt : (n : ℕ) (m rest : List ℕ) → IsShort m → first_of (message_faults (suc n) (big_bytes 2 (length m) ++ m ++ rest)) ≡ first_of (message_faults n rest)
message_spelt n m rest short =
    let given : length m ≡ big_number 2 (big_bytes 2 (length m) ++ m ++ rest) = sym (big_number-reads_back 2 (length m) (m ++ rest) (omega arith)) in
    message_there n (length m) (big_bytes 2 (length m) ++ m ++ rest) rest given (sym (drop_at m rest (length m) refl)) (omega arith) short (omega (arith, length-append m rest))

-- ---- messages that are spelt have no fault, and what has none spells them

pub parts_faultless : (ms : List (List ℕ)) → AllByRecursion IsShort ms → first_of (message_faults (length ms) (parts ms)) ≡ None
parts_faultless [] h = refl
parts_faultless (m ∷ ms) h = message_spelt (length ms) m (parts ms) h.0 ∙ parts_faultless ms h.1

pub record IsFollowed (n : ℕ) (bytes : List ℕ) : Type 0 where
  pub there : 2 ≤ length bytes
  pub short : big_number 2 bytes ≤ max_message
  pub whole : 2 + big_number 2 bytes ≤ length bytes
  pub rest : first_of (message_faults n (drop (big_number 2 bytes) (drop 2 bytes))) ≡ None

pub followed : (n : ℕ) (bytes : List ℕ) → first_of (message_faults (suc n) bytes) ≡ None → IsFollowed n bytes
followed n bytes none = record {
  there = grind (arith, nat_tests);
  short = grind (arith, nat_tests);
  whole = grind (arith, nat_tests);
  rest = grind (arith, nat_tests);
}

pub length-split : (n : ℕ) (bytes : List ℕ) → length (split n bytes) ≡ n
length-split zero bytes = refl
length-split (suc n) bytes = ap suc (length-split n (drop (big_number 2 bytes) (drop 2 bytes)))

-- the messages that the bytes are split into spell them
pub record SpellsMessages (bytes : List ℕ) (ms : List (List ℕ)) : Type 0 where
  pub short : AllByRecursion IsShort ms
  pub exact : bytes ≡ parts ms

pub split_spells : (n : ℕ) (bytes : List ℕ) → AreBytes bytes → first_of (message_faults n bytes) ≡ None → SpellsMessages bytes (split n bytes)
split_spells zero [] fits none = record { short = tt; exact = refl }
split_spells zero (b ∷ bytes) fits none = absurd (grind (arith, nat_tests))
split_spells (suc n) bytes fits none =
    let h = followed n bytes none in
    let after = drop 2 bytes in
    let given = big_number 2 bytes in
    let more = split_spells n (drop given after) (AreBytes-drop given after (AreBytes-drop 2 bytes fits)) h.rest in
    let len : length (take given after) ≡ given = length-take-le given after (omega (arith, h.whole, length-drop 2 bytes)) in
    let front : bytes ≡ big_bytes 2 given ++ after = big_bytes-of_2 bytes given h.there fits refl in
    let behind : after ≡ take given after ++ parts (split n (drop given after)) = sym (take-append-drop given after) ∙ ap (λ (xs : List ℕ). take given after ++ xs) more.exact in
    record {
      short = (rw len h.short, more.short);
      exact = rw len (front ∙ ap (λ (xs : List ℕ). big_bytes 2 given ++ xs) behind);
    }
