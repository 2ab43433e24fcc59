use Rattle.std.proofs.Common.{ℕ, List, sym, subst}
use Rattle.amo_call.specs.Naming.{MayTakeFrom}
use Rattle.amo_call.proofs.taking.begin_behind.Goals as goal

pub begin-requires-then-pause : goal.begin-requires-then-pause
begin-requires-then-pause g c =
    subst (λ (s : List ℕ). MayTakeFrom g.C.Caller.heard c.args.claim.stream c.args.from s) (sym c.pause.ensures.saved) c.requires
