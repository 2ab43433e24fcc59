use Rattle.std.proofs.Common.{◌≡◌, drop, map}
use Rattle.httparse.specs.Spans.{header_bytes}
use Rattle.amo_door.specs.Head.{field_of}
use Rattle.amo_door.proofs.head.field.Given as goal

-- no field so far has the name
abbrev pub invariant-loop-field : goal.invariant-loop-field
invariant-loop-field l = field_of l.name (map (header_bytes l.input) l.fields) ≡ field_of l.name (map (header_bytes l.input) (drop l.field-index l.fields))
