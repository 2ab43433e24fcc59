use Rattle.std.proofs.Common.{◌≡◌, ℕ, ◌<◌, false}
use Rattle.amo_host.specs.declared.agenda.StreamMode.{StreamMode}
use Rattle.amo_host.specs.Host.{IsAt}
use Rattle.amo_host.specs.Modes.{waits}
use Rattle.amo_host.proofs.agenda.Agenda.are_calm.Given as goal

-- no side that was looked at waits
abbrev pub invariant-loop-place : goal.invariant-loop-place
invariant-loop-place l = (k : ℕ) (m : StreamMode) → k < l.place → IsAt l.self k m → waits m.mode ≡ false
