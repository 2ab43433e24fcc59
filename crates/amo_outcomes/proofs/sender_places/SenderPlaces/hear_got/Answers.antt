use Rattle.std.proofs.Common.{◌∙◌, sym}
use Rattle.amo_outcomes.proofs.SenderKeeping.{hears_got, hears_got_again}
use Rattle.amo_outcomes.proofs.sender_places.SenderPlaces.hear_got.Goals as goal

pub returns-in-Some : goal.returns-in-Some
returns-in-Some c =
    hears_got c.args.self.now c.args.id c.in-Some.run' c.raise.new.marks c.remove.new.self (sym c.remove.ensures.value ∙ c.in-Some.is)
    c.remove.ensures.updates c.raise.ensures

pub returns-in_default : goal.returns-in_default
returns-in_default c =
    hears_got_again c.args.self.now c.args.id c.remove.new.self (sym c.remove.ensures.value ∙ c.in_default.is) c.remove.ensures.updates
