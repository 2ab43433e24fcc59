use Rattle.std.proofs.Common.{ℕ, List, ◌∷◌, ◌++◌, refl, sym, ◌∙◌, ap}
use Rattle.std.specs.Fmt.{decimal}
use Rattle.amo_door.specs.declared.claim.Claim.{Claim}
use Rattle.amo_call.proofs.Calls.{claim_parts, small_stream, space}
use Rattle.amo_call.proofs.Ends.{one_number, one_word}
use Rattle.amo_call.proofs.kept.parse_claim.Goals as goal

abbrev words : Claim → List ℕ → List ℕ
words claim tail = claim.life ++ 32 ∷ (claim.by ++ 32 ∷ tail)

pub returns-in_err-number-clause-none : goal.returns-in_err-number-clause-none
returns-in_err-number-clause-none c = rw c.from_residual-in_err-number.ensures (λ claim tail known e.
    let first = c.in_ok-stream.ensures.found in
    let streams = one_number 32 c.in_ok-stream.stream claim.stream c.in_ok-stream.rest.now (decimal claim.number ++ 32 ∷ words claim tail) space
    (small_stream c.in_ok-stream.stream first.0) (small_stream claim.stream known.stream) (sym first.1 ∙ e ∙ claim_parts claim (32 ∷ tail)) in
    c.in_err-number.ensures.none claim.number (words claim tail) known.number streams.1)

pub returns-in_err-life-clause-none : goal.returns-in_err-life-clause-none
returns-in_err-life-clause-none c = rw c.from_residual-in_err-life.ensures (λ claim tail known e.
    let first = c.in_ok-stream.ensures.found in
    let streams = one_number 32 c.in_ok-stream.stream claim.stream c.in_ok-stream.rest.now (decimal claim.number ++ 32 ∷ words claim tail) space
    (small_stream c.in_ok-stream.stream first.0) (small_stream claim.stream known.stream) (sym first.1 ∙ e ∙ claim_parts claim (32 ∷ tail)) in
    let second = c.in_ok-number.ensures.found in
    let numbers = one_number 32 c.in_ok-number.number claim.number c.in_ok-number.words.now (words claim tail) space second.0 known.number (sym second.1 ∙ streams.1) in
    c.in_err-life.ensures.none claim.life (claim.by ++ 32 ∷ tail) known.life numbers.1)

pub returns-in_err-by-clause-none : goal.returns-in_err-by-clause-none
returns-in_err-by-clause-none c = rw c.from_residual-in_err-by.ensures (λ claim tail known e.
    let first = c.in_ok-stream.ensures.found in
    let streams = one_number 32 c.in_ok-stream.stream claim.stream c.in_ok-stream.rest.now (decimal claim.number ++ 32 ∷ words claim tail) space
    (small_stream c.in_ok-stream.stream first.0) (small_stream claim.stream known.stream) (sym first.1 ∙ e ∙ claim_parts claim (32 ∷ tail)) in
    let second = c.in_ok-number.ensures.found in
    let numbers = one_number 32 c.in_ok-number.number claim.number c.in_ok-number.words.now (words claim tail) space second.0 known.number (sym second.1 ∙ streams.1) in
    let third = c.in_ok-life.ensures.found in
    let lives = one_word 32 c.in_ok-life.life claim.life c.in_ok-life.caller.now (claim.by ++ 32 ∷ tail) refl third.0 known.life (sym third.1 ∙ numbers.1) in
    c.in_err-by.ensures.none claim.by tail known.by lives.1)

pub returns-clause-found : goal.returns-clause-found
returns-clause-found c =
    let first = c.in_ok-stream.ensures.found in
    let second = c.in_ok-number.ensures.found in
    let third = c.in_ok-life.ensures.found in
    let fourth = c.in_ok-by.ensures.found in
    let claim : Claim = record { stream = c.in_ok-stream.stream; number = c.in_ok-number.number; life = c.in_ok-life.life; by = c.in_ok-by.by } in
    let caller = third.1 ∙ ap (λ (t : List ℕ). claim.life ++ 32 ∷ t) fourth.1 in
    let rest = second.1 ∙ ap (λ (t : List ℕ). decimal claim.number ++ 32 ∷ t) caller in
    let whole = first.1 ∙ ap (λ (t : List ℕ). decimal claim.stream ++ 32 ∷ t) rest in
    (record { stream = first.0; number = second.0; life = third.0; by = fourth.0 }, whole ∙ sym (claim_parts claim (32 ∷ c.in_ok-by.tail.now)))
