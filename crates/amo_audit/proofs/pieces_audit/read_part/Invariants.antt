use Rattle.std.specs.Io.KnownBytes.{Keeps}
use Rattle.amo_audit.proofs.pieces_audit.read_part.Given as goal

-- nothing came yet
abbrev pub invariant-tries : goal.invariant-tries
invariant-tries g l = Keeps (g.R.Read.remaining l.fn.reader) (g.R.Read.remaining l.reader)
