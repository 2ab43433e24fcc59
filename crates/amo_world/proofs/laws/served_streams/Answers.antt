use Rattle.std.proofs.Common.{◌∙◌}
use Rattle.amo_object.specs.Queue.{start}
use Rattle.amo_object.proofs.Acknowledgements.{messages_got-acknowledged}
use Rattle.amo_world.proofs.Consequences.{IsSubsequence-served, messages_put-served}
use Rattle.amo_world.proofs.laws.served_streams.Goals as goal

pub returns-clause-order : goal.returns-clause-order
returns-clause-order c = IsSubsequence-served

pub returns-clause-nothing_lost : goal.returns-clause-nothing_lost
returns-clause-nothing_lost c = messages_put-served

pub returns-clause-yes : goal.returns-clause-yes
returns-clause-yes c = λ number events before later m served seen. messages_got-acknowledged start served.0 before m later served.1 (served.2 ∙ seen)
