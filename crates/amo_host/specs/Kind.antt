-- The acts of a host, and what a pump tells of them.
use Rattle.std.specs.Prelude.{◌≡◌, ℕ, Bool, true, false, if◌then◌else◌}
use Rattle.amo_core.specs.declared.act.Act.{Act}
use Rattle.amo_core.specs.declared.act.Act.TheVariants as act
use Rattle.amo_host.specs.declared.turned.Kind.{Kind}
use Rattle.amo_host.specs.declared.turned.Kind.TheVariants as kind

-- the kind of a host's act; a client's call has none
abbrev pub IsKindOf : Act → Kind → Type 0
IsKindOf (act.Start word) k = k ≡ kind.Start word
IsKindOf (act.Batch word) k = k ≡ kind.Batch word
IsKindOf act.Resend k = k ≡ kind.Resend
IsKindOf (act.Deliver p word) k = k ≡ kind.Deliver word
IsKindOf act.Crash k = k ≡ kind.Crash
IsKindOf act.Recover k = k ≡ kind.Recover
IsKindOf _ k = ⊥

abbrev pub is_resend : Act → Bool
is_resend act.Resend = true
is_resend _ = false

-- a host's own act
abbrev pub IsHostAct : Act → Type 0
IsHostAct (act.Put m) = ⊥
IsHostAct act.Get = ⊥
IsHostAct act.Ack = ⊥
IsHostAct _ = Unit {0}

-- a crash or a recovery
abbrev pub IsDownOrUp : Act → Type 0
IsDownOrUp act.Crash = Unit {0}
IsDownOrUp act.Recover = Unit {0}
IsDownOrUp _ = ⊥

-- the act that begins a handshake under this word: for a batch, or for one message
abbrev pub start_under : Bool → ℕ → Act
start_under together word = if together then act.Batch word else act.Start word
