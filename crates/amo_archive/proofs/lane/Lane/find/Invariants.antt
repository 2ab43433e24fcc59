use Rattle.std.proofs.Common.{◌≡◌, ◌+◌, ◌<◌, ◌^◌, length, drop}
use Rattle.std.specs.List.{flat_map}
use Rattle.amo_archive.specs.Lane.{behind_puts, message_of, owners_in, section_owners}
use Rattle.amo_archive.proofs.lane.Lane.find.Given as goal

-- the puts of the sections so far were passed over
abbrev pub invariant-loop-section : goal.invariant-loop-section
invariant-loop-section l = length (owners_in l.fn.self) < 2 ^ 64 → (message_of l.fn.life l.fn.number (owners_in l.fn.self) ≡ behind_puts l.put (message_of l.fn.life l.left (flat_map section_owners (drop l.section-index l.fn.self.sections.items))))
    × (l.put + length (flat_map section_owners (drop l.section-index l.fn.self.sections.items)) ≡ length (owners_in l.fn.self))
