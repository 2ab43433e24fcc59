use Rattle.std.proofs.Common.{rules}
use Rattle.amo_offline.proofs.pair.Pair.is_judged_yes.Goals as goal

pub rounds-preserved : goal.rounds-preserved
rounds-preserved g c =
    let (pieces, (pieces', have)) = c.rounds.invariant in
    let wants = (rw c.in-Wants.is at c.in_ok-which.ensures) pieces pieces' have in
    c.in_ok-read_on-in-Wants.ensures (search rules) pieces pieces' wants
