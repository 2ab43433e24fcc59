-- What a writer holds after several calls.
use Rattle.std.proofs.Common.{◌≡◌, ℕ, ◌-◌, ◌≤◌, Option, Some, None, Result, Ok, Err, List, [], ◌∷◌, ◌++◌, length, take, drop, refl, ap, ◌∙◌, subst}
use Rattle.std.proofs.lemmas.List.{take_rest}
use Rattle.std.specs.Io.KnownBytes.{Appends, Keeps, WriteAppends}
use Rattle.amo_text.specs.Sink.{RefusedAt}
use Rattle.std.proofs.KnownBytes.{Keeps-refl, Keeps-trans}
use Rattle.std.proofs.lemmas.Fn.{FoldsTo-push}
use Rattle.std.specs.IoError.{error_kind}
use Rattle.std.specs.declared.io.Error.{Error}
use Rattle.std.specs.declared.io.ErrorKind.TheVariants.{Interrupted}
use Rattle.amo_disk.specs.Disk.{Interrupts}

-- before any call
pub kept_so_far : (a : Option (List ℕ)) → Keeps a a
kept_so_far a = Keeps-refl a

-- one more that wrote nothing
pub kept_on : (a b c : Option (List ℕ)) → Keeps a b → Keeps b c → Keeps a c
kept_on a b c first second = Keeps-trans a b c first second

-- a call after calls that wrote nothing
pub kept_then : {E : Type 0} (a b c : Option (List ℕ)) (r : Result ℕ E) (bytes : List ℕ) → Keeps a b → WriteAppends b c r bytes → WriteAppends a c r bytes
kept_then None b c (Ok n) bytes kept wrote = tt
kept_then None b c (Err e) bytes kept wrote = tt
kept_then (Some x) None c r bytes kept wrote = absurd kept
kept_then (Some x) (Some y) None (Ok n) bytes kept wrote = absurd wrote
kept_then (Some x) (Some y) None (Err e) bytes kept wrote = absurd wrote
kept_then (Some x) (Some y) (Some z) (Ok n) bytes kept wrote = wrote ∙ ap (λ (l : List ℕ). l ++ take n bytes) kept
kept_then (Some x) (Some y) (Some z) (Err e) bytes kept wrote = wrote ∙ kept

-- before any call there was no interruption
pub interrupts_none : {D : Type 0} (answers : D → List ℕ → Result ℕ Error → D → Type 0) (bytes : List ℕ) (device : D) → (errors : List Error) × Interrupts answers bytes device errors device
interrupts_none answers bytes device = ([], refl)

-- and one more interruption
pub interrupts_on : {D : Type 0} (answers : D → List ℕ → Result ℕ Error → D → Type 0) (bytes : List ℕ) (old before new : D) (error : Error) → (errors : List Error) × Interrupts answers bytes old errors before → answers before bytes (Err error) new → error_kind error ≡ Interrupted → (errors : List Error) × Interrupts answers bytes old errors new
interrupts_on answers bytes old before new error (errors, so_far) answered interrupted =
    (errors ++ (error ∷ []), FoldsTo-push _ old errors before error new so_far (answered, interrupted))

-- the first n of some bytes were handed on, and a call with the others was refused
pub refused_behind : {S : Type 0} (refused : S → List ℕ → S → Type 0) (written : S → Option (List ℕ)) (first old before new : S) (waiting items slice : List ℕ) (n : ℕ) → first ≡ old → items ≡ waiting → slice ≡ items → n ≤ length items → Appends (written first) (written before) (take n items) → refused before (take (length slice - n) (drop n slice)) new → RefusedAt refused written old waiting new
refused_behind refused written first old before new waiting items slice n same_sink same_items same_slice within appended was =
    let of_items : refused before (take (length items - n) (drop n items)) new = subst (λ l. refused before (take (length l - n) (drop n l)) new) same_slice was in
    let of_rest : refused before (drop n items) new = subst (λ l. refused before l new) (take_rest items n) of_items in
    subst (λ l. RefusedAt refused written old l new) same_items (subst (λ s. RefusedAt refused written s items new) same_sink (n, before, within, appended, of_rest))
