use Rattle.std.proofs.Common.{◌++◌, List, ℕ}
use Rattle.std.specs.Io.KnownBytes.{Consumes}
use Rattle.amo_audit.specs.Parts.{HasCome}
use Rattle.amo_audit.proofs.pieces_audit.take_rest.Given as goal

-- so much more came
abbrev pub invariant-parts : goal.invariant-parts
invariant-parts g l = (more : List ℕ) × Consumes (g.R.Read.remaining l.fn.reader) (g.R.Read.remaining l.reader) more × ((front : List ℕ) → HasCome l.fn.text front → HasCome l.text (front ++ more))
