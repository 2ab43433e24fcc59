use Rattle.std.specs.Prelude.{◌≡◌, ◌++◌, take}
use Rattle.std.specs.List.{flat_map}
use Rattle.amo_lines.specs.Spelt.{escaped}
use Rattle.amo_lines.proofs.lines.push_escaped.Given as goal

-- the bytes so far were appended
abbrev pub invariant-loop-byte : goal.invariant-loop-byte
invariant-loop-byte l = l.shown.items ≡ l.fn.shown.items ++ flat_map escaped (take l.byte-index l.text)
