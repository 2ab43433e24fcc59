use Rattle.std.proofs.Common.{◌<◌, ℕ, false, get_or}
use Rattle.std.specs.Prelude.{IsTrue}
use Rattle.amo_audit.proofs.marking.SideSet.meets.Given as goal

abbrev pub invariant-loop-place : goal.invariant-loop-place
invariant-loop-place l = (k : ℕ) → k < l.place → IsTrue (get_or l.self.has k false) → IsTrue (get_or l.other.has k false) → ⊥
