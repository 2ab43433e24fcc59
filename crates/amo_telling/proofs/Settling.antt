-- What a start tells of streams in doubt, and of puts that were not answered.
use Rattle.std.proofs.Common.{◌≡◌, ◌∙◌, ℕ, Bool, List, Option, [], ◌∷◌, ◌++◌, sym, ap, subst, append_assoc, append-nil, refl, Bor}
use Rattle.std.specs.List.{flat_map}
use Rattle.std.proofs.lemmas.Grind.{flat_map-append}
use Rattle.amo_outcomes.specs.declared.sender_outcome.SenderOutcome.{SenderOutcome}
use Rattle.amo_lives.specs.declared.doubt.Span.{Span}
use Rattle.amo_telling.specs.declared.put.Put.{Put}
use Rattle.amo_telling.specs.Unanswered.{settled_line}
use Rattle.amo_telling.specs.Untold.{TellsPut, TellsPuts}

-- one line more stands behind those of some streams
pub one_line_more : (json : Bool) (old text new streams : List ℕ) (stream : ℕ) → text ≡ old ++ flat_map (settled_line json) streams → new ≡ text ++ settled_line json stream → new ≡ old ++ flat_map (settled_line json) (streams ++ stream ∷ [])
one_line_more json old text new streams stream is more =
    let line = settled_line json stream in
    let lines = flat_map (settled_line json) streams in
    more ∙ (ap (λ (l : List ℕ). l ++ line) is ∙ (append_assoc old lines line ∙ ap (λ (l : List ℕ). old ++ l) (sym (flat_map-append (settled_line json) streams (stream ∷ []) ∙ ap (λ (l : List ℕ). lines ++ l) (append-nil line)))))

-- a number and its put, as they stand
abbrev pub read_pair : Bor ℕ × Bor Put → ℕ × Put
read_pair (number, put) = (number.now, put.now)

-- one put more is told behind those before it
pub one_more_told : (IsKnown : Put → Option SenderOutcome → Type 0) (doubts : List Span) (json : Bool) (puts : List (ℕ × Put)) (put : ℕ × Put) (old text new : List ℕ) → TellsPuts IsKnown doubts json puts old text → TellsPut IsKnown doubts json put text new → TellsPuts IsKnown doubts json (puts ++ put ∷ []) old new
one_more_told IsKnown doubts json [] put old text new same more = (new, subst (λ (l : List ℕ). TellsPut IsKnown doubts json put l new) same more, refl)
one_more_told IsKnown doubts json (first ∷ puts) put old text new (middle, tells, rest) more = (middle, tells, one_more_told IsKnown doubts json puts put middle text new rest more)

-- the same, where of puts of which this is known something else is
pub told_so : (IsKnown Others : Put → Option SenderOutcome → Type 0) → ((put : Put) (outcome : Option SenderOutcome) → IsKnown put outcome → Others put outcome) → (doubts : List Span) (json : Bool) (puts : List (ℕ × Put)) (old new : List ℕ)
    → TellsPuts IsKnown doubts json puts old new → TellsPuts Others doubts json puts old new
told_so IsKnown Others weaker doubts json [] old new same = same
told_so IsKnown Others weaker doubts json (put ∷ puts) old new (middle, (outcome, known, is), rest) = (middle, (outcome, weaker put.1 outcome known, is), told_so IsKnown Others weaker doubts json puts middle new rest)
