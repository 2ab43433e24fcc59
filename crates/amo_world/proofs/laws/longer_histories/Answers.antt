use Rattle.amo_world.proofs.Extensions.{itself, one_event, further, earlier_too, called_later, emitted_later}
use Rattle.amo_world.specs.History.{HasRightReply, DeliversEmitted, UsesNewWord}
use Rattle.amo_world.proofs.laws.longer_histories.Goals as goal

pub returns-clause-itself : goal.returns-clause-itself
returns-clause-itself c = itself

pub returns-clause-one_event : goal.returns-clause-one_event
returns-clause-one_event c = one_event

pub returns-clause-further : goal.returns-clause-further
returns-clause-further c = further

pub returns-clause-right : goal.returns-clause-right
returns-clause-right c = earlier_too HasRightReply

pub returns-clause-honest : goal.returns-clause-honest
returns-clause-honest c = earlier_too DeliversEmitted

pub returns-clause-fresh : goal.returns-clause-fresh
returns-clause-fresh c = earlier_too UsesNewWord

pub returns-clause-called : goal.returns-clause-called
returns-clause-called c = called_later

pub returns-clause-emitted : goal.returns-clause-emitted
returns-clause-emitted c = emitted_later
