use Rattle.std.proofs.Common.{ℕ, List, [], reverse, subst, sym}
use Rattle.amo_telling.specs.Outcomes.{IsKnownAlone, Tells, by}
use Rattle.amo_telling.proofs.Journals.{tells_alone}
use Rattle.amo_telling.proofs.alone.told_alone.Goals as goal

pub returns : goal.returns
returns c =
    let events = c.args.events.now in
    subst (λ (text : List ℕ). Tells (IsKnownAlone (reverse events)) (by c.args.choice c.args.doubts.now) [] events text) (sym c.in_ok-told_of_events.ensures)
    (tells_alone (by c.args.choice c.args.doubts.now) c.as_slice.result events c.requires.streams c.requires.right (rw c.as_slice.ensures.value c.in_ok-all.ensures))
