-- What is gathered before it is handed on.
use Rattle.std.specs.Prelude.{ℕ, Option, List, ◌⊎◌}
use Rattle.std.specs.Io.KnownBytes.{Appends}
use Rattle.amo_text.specs.Sink.{RefusedAt}

-- a sink, and the bytes that wait in front of it
pub record GatheredState (S : Type 0) : Type 0 where
  pub sink : S
  pub waiting : List ℕ

-- a call of the sink below was refused: one with what waited last, or, behind all that waited, one with these bytes
abbrev pub GatheredRefused : {S : Type 0} → (S → List ℕ → S → Type 0) → (S → Option (List ℕ)) → GatheredState S → List ℕ → GatheredState S → Type 0
GatheredRefused {S} refused written old bytes new =
    RefusedAt refused written old.sink old.waiting new.sink
    ⊎ ((before : S) × Appends (written old.sink) (written before) old.waiting × refused before bytes new.sink)
