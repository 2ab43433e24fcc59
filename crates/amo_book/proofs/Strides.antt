-- Gates and slots stand apart.
use Rattle.std.proofs.Common.{◌≡◌, ◌≢◌, ℕ, ◌<◌, arith}
use Rattle.amo_book.specs.Rule.{gate_of, slot_of}

pub same_gate : (j k : ℕ) → gate_of j ≡ gate_of k → j ≡ k
same_gate j k e = omega arith

pub gates_differ : (j k : ℕ) → j ≢ k → gate_of j ≢ gate_of k
gates_differ j k n e = n (same_gate j k e)

pub gate_is_not_count : (k : ℕ) → gate_of k ≢ 0
gate_is_not_count k e = omega arith

pub gate_within : (k places : ℕ) → k < places → gate_of k < gate_of places
gate_within k places lt = omega arith

pub slots_differ : (j k : ℕ) → j ≢ k → slot_of j ≢ slot_of k
slots_differ j k n e = n (omega arith)

pub slot_within : (k places : ℕ) → k < places → slot_of k < slot_of places
slot_within k places lt = omega arith
