use Rattle.std.proofs.Common.{Result, Ok, Err, OnErr, inr}
use Rattle.amo_telling.proofs.outcomes.tell_outcomes.Goals as goal

on_err : {X Y : Type 0} → (r : Result X Y) (Q : Type 0) → Q → OnErr r Q
on_err (Ok x) Q q = tt
on_err (Err e) Q q = q

pub returns-in_err-write_all-in-Ok-clause-begun : goal.returns-in_err-write_all-in-Ok-clause-begun
returns-in_err-write_all-in-Ok-clause-begun g c =
    on_err c.from_residual.result _ (inr (c.in-Ok.text.items, (c.in-Ok.reach, c.in-Ok.ensures.told), rw c.as_slice.ensures.value at c.in_err-write_all-in-Ok.ensures.fault))
