use Rattle.std.proofs.Common.{◌∷◌, sym, ◌∙◌, arith}
use Rattle.amo_text.proofs.Digits.{one_number, none_in_space}
use Rattle.amo_text.proofs.stream.next_stream.Goals as goal

pub returns-in_err-stream_of-clause-none : goal.returns-in_err-stream_of-clause-none
returns-in_err-stream_of-clause-none c = rw c.from_residual-in_err-stream_of.ensures (λ stream rest known e.
    let found = c.in_ok-number.ensures.found in
    let same = one_number c.in_ok-number.number stream _ (32 ∷ rest) found.0 (omega (arith, known.1)) (none_in_space c.in_ok-number.rest.now) (none_in_space rest) (sym found.1 ∙ e) in
    c.in_err-stream_of.ensures.none (rw (sym same.0) at known))
