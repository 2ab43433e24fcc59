use Rattle.amo_world.proofs.Picks.{by_itself, same_reply, same_emission, same_word}
use Rattle.amo_world.proofs.laws.sides_by_themselves.Goals as goal

pub returns-clause-replay : goal.returns-clause-replay
returns-clause-replay c = by_itself

pub returns-clause-reply : goal.returns-clause-reply
returns-clause-reply c = same_reply

pub returns-clause-emission : goal.returns-clause-emission
returns-clause-emission c = same_emission

pub returns-clause-word : goal.returns-clause-word
returns-clause-word c = same_word
