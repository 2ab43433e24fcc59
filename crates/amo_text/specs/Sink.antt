-- What a sink was written.
use Rattle.std.specs.Prelude.{◌≡◌, ℕ, ◌<◌, ◌≤◌, Option, List, Result, IfOk, length, take, drop}
use Rattle.std.specs.Io.KnownBytes.{Appends}

-- a beginning of the bytes was appended
abbrev pub AppendsFront : Option (List ℕ) → Option (List ℕ) → List ℕ → Type 0
AppendsFront old new bytes = (n : ℕ) × Appends old new (take n bytes)

-- an `Out`: its writer, and how many of its calls failed
pub record OutState (W : Type 0) : Type 0 where
  pub writer : W
  pub failures : ℕ

-- an answer to some bytes by which none was taken: an error, or that it was none of some
abbrev pub IsRefusal : {E : Type 0} → Result ℕ E → List ℕ → Type 0
IsRefusal answer bytes = IfOk answer (λ n. (n ≡ 0) × (0 < length bytes))

-- handed these bytes, a device that answers so took none of them
abbrev pub Refused : {D E : Type 0} → (D → List ℕ → Result ℕ E → D → Type 0) → D → List ℕ → D → Type 0
Refused {E = E} answers old bytes new = (answer : Result ℕ E) × answers old bytes answer new × IsRefusal answer bytes

-- a beginning of the bytes was appended, and a call with the others was refused
abbrev pub RefusedAt : {W : Type 0} → (W → List ℕ → W → Type 0) → (W → Option (List ℕ)) → W → List ℕ → W → Type 0
RefusedAt {W} refused written old bytes new =
    (n : ℕ) × (before : W) × (n ≤ length bytes) × Appends (written old) (written before) (take n bytes) × refused before (drop n bytes) new
