use Rattle.amo_outcomes.proofs.Final.{none_before}
use Rattle.amo_outcomes.proofs.laws.later_gets_settle_earlier_puts.Goals as goal

pub returns : goal.returns
returns c = λ number events earlier later right honest fresh. none_before number events right honest fresh earlier later
