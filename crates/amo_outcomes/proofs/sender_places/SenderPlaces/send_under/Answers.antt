use Rattle.amo_outcomes.proofs.SenderKeeping.{sends}
use Rattle.amo_outcomes.proofs.sender_places.SenderPlaces.send_under.Goals as goal

pub returns : goal.returns
returns c =
    sends c.args.self.now c.args.id c.insert.new.self c.settle.new.marks c.raise.new.marks c.in_ok-insert.ensures.updates c.settle.ensures
    c.raise.ensures
