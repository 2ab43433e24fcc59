-- Bytes without a fault spell a packet.
use Rattle.std.proofs.Common.{◌≡◌, ◌<◌, ◌≤◌, ◌^◌, ◌⊎◌, ◌==◌, nat_lt, nat_le, ℕ, zero, suc, Bool, true, false, not, ◌&&◌, ◌||◌, if◌then◌else◌, List, ◌++◌, length, get_or, slice_index, drop, Option, Some, None, refl, sym, ap, subst, ◌∙◌, arith, inl, inr}
use Rattle.std.proofs.lemmas.Bool.{cases_order}
use Rattle.std.proofs.lemmas.Bool.Decides.{nat_tests}
use Rattle.byteorder.specs.Endian.{big_number}
use Rattle.byteorder.specs.Numbers.{big_from-lt}
use Rattle.amo_packet.specs.declared.fault.ReadFault.{ReadFault}
use Rattle.amo_packet.specs.declared.fault.ReadFault.TheVariants.{Short, Magic, Version, Kind, Long}
use Rattle.amo_packet.specs.declared.packet.OwnedPacket.{OwnedPacket}
use Rattle.amo_packet.specs.Grammar.{header, flag, Spells}
use Rattle.amo_packet.specs.Message.{max_message}
use Rattle.amo_packet.specs.Fault.{version_byte, kind_byte, is_known, has_kind, first_fault}
use Rattle.amo_packet.proofs.Numbers.{AreBytes, AreBytes-drop}
use Rattle.amo_packet.proofs.Faults.{batch_counted, MissesLength, needuid_misses, accept_misses, send_misses, cleanup_misses}
use Rattle.amo_packet.proofs.Fields.{header_said, needuid_said, accept_said, send_said, ack_said, cleanup_said, batch_said}

abbrev SpellsSome : ℕ → List ℕ → Type 0
SpellsSome newest bytes = (p : OwnedPacket) × Spells newest bytes p

word_below : (xs : List ℕ) → AreBytes xs → big_number 8 xs < 2 ^ 64
word_below xs fits = big_from-lt 0 8 xs fits

-- where each wrong length is a fault, no fault means the right length
right_length : (newest : ℕ) (bytes xs : List ℕ) (n : ℕ) → ((f : ReadFault) → MissesLength xs n f → first_fault newest bytes ≡ Some f)
    → first_fault newest bytes ≡ None → length xs ≡ n
right_length newest bytes xs n misses none = elim (cases_order (length xs) n) [
  | inl e ↦ e
  | inr (inl lt) ↦ let some = misses Short (inl (refl, lt)) in absurd cc
  | inr (inr gt) ↦ let some = misses Long (inr (refl, gt)) in absurd cc
]

kind_known : (newest kind stream : ℕ) (fields : List ℕ) → first_fault newest (header 1 kind stream ++ fields) ≡ None → (kind ≡ 0) ⊎ (5 < kind) → ⊥
unfolding first_fault
kind_known newest kind stream fields none (inl h) = grind (arith, nat_tests)
kind_known newest kind stream fields none (inr h) = grind (arith, nat_tests)

send_whole : (newest stream : ℕ) (fields : List ℕ) → first_fault newest (header 1 3 stream ++ fields) ≡ None
    → (10 ≤ length fields) × (big_number 2 (drop 8 fields) ≤ max_message)
unfolding first_fault
send_whole newest stream fields none = grind (arith, nat_tests)

ack_whole : (newest stream : ℕ) (fields : List ℕ) → first_fault newest (header 1 4 stream ++ fields) ≡ None → (length fields ≡ 9) × (slice_index fields 8 ≤ 1)
unfolding first_fault
ack_whole newest stream fields none = grind (arith, nat_tests)

flag_of : (n : ℕ) → n ≤ 1 → (got : Bool) × (n ≡ flag got)
flag_of zero h = (false, refl)
flag_of (suc zero) h = (true, refl)
flag_of (suc (suc n)) h = absurd (omega arith)

fields_spelt : (newest kind stream : ℕ) (fields : List ℕ) → 1 ≤ newest → stream < 2 ^ 32 → AreBytes fields
    → first_fault newest (header 1 kind stream ++ fields) ≡ None → SpellsSome newest (header 1 kind stream ++ fields)
fields_spelt newest (suc zero) stream fields v s fits none =
    let len = right_length newest _ fields 8 (λ f. needuid_misses newest stream fields f v) none in
    (_, needuid_said newest stream (big_number 8 fields) fields v s (word_below fields fits) fits len refl)
fields_spelt newest (suc (suc zero)) stream fields v s fits none =
    let len = right_length newest _ fields 16 (λ f. accept_misses newest stream fields f v) none in
    (_, accept_said newest stream (big_number 8 fields) (big_number 8 (drop 8 fields)) fields v s (word_below fields fits) (word_below (drop 8 fields) (AreBytes-drop 8 fields fits)) fits len refl refl)
fields_spelt newest (suc (suc (suc zero))) stream fields v s fits none =
    let h = send_whole newest stream fields none in
    let len = right_length newest _ (drop 10 fields) (big_number 2 (drop 8 fields)) (λ f. send_misses newest stream _ (drop 10 fields) fields f v h.0 refl h.1 refl) none in
    (_, send_said newest stream (big_number 8 fields) (drop 10 fields) fields v s (word_below fields fits) (rw len h.1) fits h.0 refl len refl)
fields_spelt newest (suc (suc (suc (suc zero)))) stream fields v s fits none =
    let h = ack_whole newest stream fields none in
    let got = flag_of (slice_index fields 8) h.1 in
    (_, ack_said newest stream (big_number 8 fields) got.0 fields v s (word_below fields fits) fits h.0 refl got.1)
fields_spelt newest (suc (suc (suc (suc (suc zero))))) stream fields v s fits none =
    let len = right_length newest _ fields 8 (λ f. cleanup_misses newest stream fields f v) none in
    (_, cleanup_said newest stream (big_number 8 fields) fields v s (word_below fields fits) fits len refl)
fields_spelt newest zero stream fields v s fits none = absurd (kind_known newest 0 stream fields none (inl refl))
fields_spelt newest (suc (suc (suc (suc (suc (suc k)))))) stream fields v s fits none = absurd (kind_known newest (suc (suc (suc (suc (suc (suc k)))))) stream fields none (inr (omega arith)))

-- ---- batches

record IsCounted (fields : List ℕ) : Type 0 where
  long : 9 ≤ length fields
  some : 1 ≤ slice_index fields 8
  most : slice_index fields 8 ≤ 4

batch_whole : (newest stream : ℕ) (fields : List ℕ) → first_fault newest (header 2 6 stream ++ fields) ≡ None → IsCounted fields
unfolding first_fault
batch_whole newest stream fields none = record {
  long = grind (arith, nat_tests);
  some = grind (arith, nat_tests);
  most = grind (arith, nat_tests);
}

batch_spelt : (newest stream : ℕ) (fields : List ℕ) → 2 ≤ newest → stream < 2 ^ 32 → AreBytes fields
    → first_fault newest (header 2 6 stream ++ fields) ≡ None → SpellsSome newest (header 2 6 stream ++ fields)
batch_spelt newest stream fields v s fits none =
    let h = batch_whole newest stream fields none in
    let faultless = sym (batch_counted newest stream fields v h.long h.some h.most) ∙ none in
    (_, batch_said newest stream (big_number 8 fields) (slice_index fields 8) fields v s (word_below fields fits) fits h.long refl refl h.some h.most faultless)

-- ---- headers

-- no fault: the test of each row fails
passed : (test : Bool) (f : ReadFault) (rest : Option ReadFault) → (if test then Some f else rest) ≡ None → (test ≡ false) × (rest ≡ None)
passed true f rest none = absurd cc
passed false f rest none = (refl, none)

-- the bytes begin as a packet of a kind of a version that is known
record IsHeaded (newest : ℕ) (bytes : List ℕ) : Type 0 where
  long : 8 ≤ length bytes
  first : get_or bytes 0 0 ≡ 0x41
  second : get_or bytes 1 0 ≡ 0x4D
  known : get_or bytes 2 0 ≤ newest
  kind : has_kind (get_or bytes 2 0) (get_or bytes 3 0) ≡ true

negated : (b : Bool) → not b ≡ false → b ≡ true
negated true e = refl
negated false e = absurd cc

header_whole : (newest : ℕ) (bytes : List ℕ) → first_fault newest bytes ≡ None → IsHeaded newest bytes
unfolding first_fault
header_whole newest bytes none =
    let short = passed (nat_lt (length bytes) 8) Short _ none in
    let magic = passed (not (slice_index bytes 0 == 0x41 && slice_index bytes 1 == 0x4D)) Magic _ short.1 in
    let version = passed (not (is_known newest (version_byte bytes))) Version _ magic.1 in
    let kind = passed (not (has_kind (version_byte bytes) (kind_byte bytes))) Kind _ version.1 in
    headed newest bytes short.0 (negated _ magic.0) (negated _ version.0) (negated _ kind.0)
  where
    headed : (newest : ℕ) (bytes : List ℕ) → nat_lt (length bytes) 8 ≡ false → (slice_index bytes 0 == 0x41 && slice_index bytes 1 == 0x4D) ≡ true
        → is_known newest (version_byte bytes) ≡ true → has_kind (version_byte bytes) (kind_byte bytes) ≡ true → IsHeaded newest bytes
    headed newest bytes short magic version kind = record {
      long = grind (arith, nat_tests);
      first = grind (arith, nat_tests);
      second = grind (arith, nat_tests);
      known = grind (arith, nat_tests);
      kind = kind;
    }

either : (a b : Bool) → (a || b) ≡ true → (a ≡ true) ⊎ (b ≡ true)
either true b e = inl refl
either false b e = inr e

of_version_1 : (version kind : ℕ) → (version == 1 && (nat_le 1 kind && nat_le kind 5)) ≡ true → version ≡ 1
of_version_1 version kind e = grind (arith, nat_tests)

of_version_2 : (version kind : ℕ) → (version == 2 && kind == 6) ≡ true → (version ≡ 2) × (kind ≡ 6)
of_version_2 version kind e = (grind (arith, nat_tests), grind (arith, nat_tests))

by_version : (newest version kind stream : ℕ) (fields : List ℕ) → version ≤ newest → has_kind version kind ≡ true → stream < 2 ^ 32 → AreBytes fields
    → first_fault newest (header version kind stream ++ fields) ≡ None → SpellsSome newest (header version kind stream ++ fields)
by_version newest version kind stream fields v has s fits none = elim (either _ _ has) [
  | inl first ↦ let e = of_version_1 version kind first in rw e (fields_spelt newest kind stream fields (rw e at v) s fits (rw e at none))
  | inr second ↦ let e = of_version_2 version kind second in rw (e.0, e.1) (batch_spelt newest stream fields (rw e.0 at v) s fits (rw (e.0, e.1) at none))
]

pub Spells-no_fault : (newest : ℕ) (bytes : List ℕ) → AreBytes bytes → first_fault newest bytes ≡ None → SpellsSome newest bytes
Spells-no_fault newest bytes fits none =
    let h = header_whole newest bytes none in
    let stream = big_number 4 (drop 4 bytes) in
    let said = header_said bytes stream h.long fits h.first h.second refl in
    let spelt = by_version newest (get_or bytes 2 0) (get_or bytes 3 0) stream (drop 8 bytes) h.known h.kind (big_from-lt 0 4 (drop 4 bytes) (AreBytes-drop 4 bytes fits)) (AreBytes-drop 8 bytes fits) (ap (first_fault newest) (sym said) ∙ none) in
    (spelt.0, subst (λ (xs : List ℕ). Spells newest xs spelt.0) (sym said) spelt.1)
