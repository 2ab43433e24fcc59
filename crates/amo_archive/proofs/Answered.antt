-- What is told of an answer, where there is one.
use Rattle.std.specs.Prelude.{IfOk, Result, Ok, Err}

-- of an answer of which two things hold both do
pub both_hold : {T E : Type 0} (r : Result T E) (First Second : T → Type 0) → IfOk r First → IfOk r Second → IfOk r (λ t. First t × Second t)
both_hold (Ok t) First Second one other = (one, other)
both_hold (Err e) First Second one other = one
