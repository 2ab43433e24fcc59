use Rattle.amo_outcomes.proofs.SenderAlone.{same_outcome}
use Rattle.amo_outcomes.proofs.laws.a_sender_tells_by_its_own_events.Goals as goal

pub returns : goal.returns
returns c = λ number one other put outcome same. same_outcome number one other put outcome same
