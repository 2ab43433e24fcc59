use Rattle.std.proofs.Common.{◌≡◌, ◌+◌, min, length, arith}
use Rattle.amo_outcomes.specs.Places.{most_of}
use Rattle.amo_outcomes.proofs.SenderKeeping.{begins}
use Rattle.amo_outcomes.proofs.sender_places.SenderPlaces.begin.Goals as goal

pub returns : goal.returns
returns c =
    let k = c.args.self.now in
    let ends : c.min-end.result ≡ min (k.waiting + most_of c.args.act.now) (length k.marks.items) = omega (arith, c.most_of.ensures) in
    begins k c.args.act.now c.min-end.result ends
