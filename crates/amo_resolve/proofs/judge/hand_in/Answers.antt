use Rattle.std.proofs.Common.{take}
use Rattle.amo_resolve.proofs.Seeing.{seen_next}
use Rattle.amo_resolve.proofs.judge.hand_in.Goals as goal

pub returns-clause-seen : goal.returns-clause-seen
returns-clause-seen c =
    let events = c.args.events.now in
    seen_next _ events c.args.place c.index-events-place.result c.requires.within c.index-events-place.is
    (c.in_ok-see.ensures (take c.args.place events) c.requires.seen)
