use Rattle.std.proofs.Common.{◌∷◌, ◌++◌}
use Rattle.std.specs.Fmt.{decimal}
use Rattle.amo_journal.proofs.InFront.{one_number, one_side}
use Rattle.amo_journal.proofs.line_reader.next_place.Goals as goal

pub returns-in_err-side-clause-none : goal.returns-in_err-side-clause-none
returns-in_err-side-clause-none c =
    let first = c.in_ok-pass.ensures.found in
    rw c.from_residual-in_err-side.ensures (λ pass side stream rest small known e.
    c.in_err-side.ensures.none side (decimal stream ++ 32 ∷ rest) (one_number c.args.text.now _ _ _ pass first.0 small first.1 e).1)

pub returns-in_err-stream-clause-none : goal.returns-in_err-stream-clause-none
returns-in_err-stream-clause-none c =
    let first = c.in_ok-pass.ensures.found in
    let second = c.in_ok-side.ensures.found in
    rw c.from_residual-in_err-stream.ensures (λ pass side stream rest small known e.
    c.in_err-stream.ensures.none stream rest known (one_side _ _ _ _ side second (one_number c.args.text.now _ _ _ pass first.0 small first.1 e).1).1)
