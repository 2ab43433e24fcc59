use Rattle.std.proofs.Common.{List, ℕ, refl, subst}
use Rattle.amo_schedule.specs.Schedule.{Parses}
use Rattle.amo_schedule.proofs.Reading.{other_kind, whole_text}
use Rattle.amo_schedule.proofs.reader.parse.Goals as goal

pub returns-in_err-act : goal.returns-in_err-act
returns-in_err-act c =
    let cut = c.in_ok-name.ensures.found in
    rw c.from_residual-in_err-act.ensures (λ line known. other_kind line c.args.text.now _ _ cut.0 cut.1 c.in_err-act.ensures.none)

pub returns-in_default : goal.returns-in_default
returns-in_default c =
    let whole = whole_text c.args.text.now _ _ _ _ c.in_ok-name.ensures.found.0 c.in_ok-act.ensures.found refl in
    subst (λ (t : List ℕ). Parses t c.other.result) whole (c.other.ensures _ c.read_other.ensures)
