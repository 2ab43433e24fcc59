-- How a device answers where it is tried again.
use Rattle.std.specs.Prelude.{◌≡◌, ℕ, List, Result, Err}
use Rattle.std.specs.List.{FoldsTo}
use Rattle.std.specs.IoError.{error_kind}
use Rattle.std.specs.declared.io.Error.{Error}
use Rattle.std.specs.declared.io.ErrorKind.TheVariants.{Interrupted}

-- handed these bytes again and again, a device told of these interruptions, one a call
abbrev pub Interrupts : {D : Type 0} → (D → List ℕ → Result ℕ Error → D → Type 0) → List ℕ → D → List Error → D → Type 0
Interrupts answers bytes old errors new = FoldsTo (λ device error left. answers device bytes (Err error) left × (error_kind error ≡ Interrupted)) old errors new

-- it told of interruptions, if of any, and then it answered so
abbrev pub AnswersPatiently : {D : Type 0} → (D → List ℕ → Result ℕ Error → D → Type 0) → D → List ℕ → Result ℕ Error → D → Type 0
AnswersPatiently {D} answers old bytes answer new =
    (errors : List Error) × (before : D) × Interrupts answers bytes old errors before × answers before bytes answer new
