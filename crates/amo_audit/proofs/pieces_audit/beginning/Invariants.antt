use Rattle.std.specs.Io.KnownBytes.{Consumes}
use Rattle.amo_audit.proofs.pieces_audit.beginning.Given as goal

-- these bytes came
abbrev pub invariant-parts : goal.invariant-parts
invariant-parts g l = Consumes (g.R.Read.remaining l.fn.reader) (g.R.Read.remaining l.reader) l.begun.items
