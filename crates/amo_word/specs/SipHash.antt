-- SipHash-2-4, as in Aumasson and Bernstein, "SipHash: a fast short-input PRF" (2012), section 2.
use Rattle.std.specs.Prelude.{ℕ, ◌+◌, ◌%◌, ◌^◌, List, bit_xor}
use Rattle.std.specs.Int.{w64, rotate_left}
use Rattle.std.specs.List.{fold}
use Rattle.rand_core.specs.Steps.{u64_at}
use Rattle.amo_word.specs.declared.siphash.State.{State}

-- the sum of two words of 64 bits, with the carry dropped
abbrev pub add64 : ℕ → ℕ → ℕ
add64 x y = (x + y) % 2 ^ 64

-- the state under a key of 16 bytes, which are two words, the low byte first
abbrev pub initial : List ℕ → State
initial key = record {
  v0 = bit_xor (u64_at key 0) 0x736f_6d65_7073_6575;
  v1 = bit_xor (u64_at key 1) 0x646f_7261_6e64_6f6d;
  v2 = bit_xor (u64_at key 0) 0x6c79_6765_6e65_7261;
  v3 = bit_xor (u64_at key 1) 0x7465_6462_7974_6573;
}

-- the state after one SipRound
unfoldable pub sip_round : State → State
sip_round s =
    let a0 = add64 s.v0 s.v1 in
    let a2 = add64 s.v2 s.v3 in
    let a1 = bit_xor (rotate_left w64 s.v1 13) a0 in
    let a3 = bit_xor (rotate_left w64 s.v3 16) a2 in
    let b2 = add64 a2 a1 in
    let b0 = add64 (rotate_left w64 a0 32) a3 in
    record { v0 = b0; v1 = bit_xor (rotate_left w64 a1 17) b2; v2 = rotate_left w64 b2 32; v3 = bit_xor (rotate_left w64 a3 21) b0 }

-- the state after a word of the message: two rounds
abbrev pub absorbed : State → ℕ → State
absorbed s word =
    let t = sip_round (sip_round (record s { v3 = bit_xor s.v3 word })) in
    record t { v0 = bit_xor t.v0 word }

-- what a state gives in the end, after four rounds
abbrev pub finished : State → ℕ
finished s =
    let t = sip_round (sip_round (sip_round (sip_round (record s { v2 = bit_xor s.v2 0xff })))) in
    bit_xor (bit_xor (bit_xor t.v0 t.v1) t.v2) t.v3

-- The hash of the words that a message is parsed into: its bytes, the low byte first, and on top of the last word how many they are, modulo 256.
abbrev pub siphash : List ℕ → List ℕ → ℕ
siphash key words = finished (fold absorbed (initial key) words)
