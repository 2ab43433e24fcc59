use Rattle.std.specs.Fmt.{decimal}
use Rattle.amo_schedule.proofs.Reading.{after_side}
use Rattle.amo_schedule.proofs.reader.read_side_of_stream.Goals as goal

pub returns-in_err-read_side-clause-none : goal.returns-in_err-read_side-clause-none
returns-in_err-read_side-clause-none c =
    let cut = c.in_ok-side.ensures.found in
    rw c.from_residual-in_err-read_side.ensures (λ side stream known e.
    c.in_err-read_side.ensures.none side (after_side side (decimal stream) c.args.fields.now _ _ cut.0 cut.1 e).0)
