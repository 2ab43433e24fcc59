use Rattle.std.proofs.Common.{◌≤◌, vec_capacity}
use Rattle.amo_book.specs.Rule.{first_slot, slot_of, Spaced}
use Rattle.amo_book.proofs.board.opening.slots.Given as goal

abbrev pub invariant-loop-place : goal.invariant-loop-place
invariant-loop-place l = Spaced (first_slot l.sides) l.place l.slots.items × (slot_of l.n ≤ vec_capacity l.slots)
