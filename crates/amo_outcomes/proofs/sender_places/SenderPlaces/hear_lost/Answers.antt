use Rattle.std.proofs.Common.{◌∙◌, sym}
use Rattle.amo_outcomes.proofs.SenderKeeping.{hears_lost, hears_lost_again}
use Rattle.amo_outcomes.proofs.sender_places.SenderPlaces.hear_lost.Goals as goal

pub returns-in-Some : goal.returns-in-Some
returns-in-Some c =
    hears_lost c.args.self.now c.args.id c.in-Some.run' c.settle.new.marks
    (sym c.get.ensures.value ∙ sym c.copied.ensures ∙ c.in-Some.is) c.settle.ensures

pub returns-in_default : goal.returns-in_default
returns-in_default c =
    hears_lost_again c.args.self.now c.args.id (sym c.get.ensures.value ∙ sym c.copied.ensures ∙ c.in_default.is)
