use Rattle.amo_net.proofs.Sendings.{sent_lost, sent_twice, sent_once, sent_full, length-sent}
use Rattle.amo_net.proofs.laws.words_lose_repeat_and_keep.Goals as goal

pub returns-clause-loses : goal.returns-clause-loses
returns-clause-loses c = sent_lost

pub returns-clause-repeats : goal.returns-clause-repeats
returns-clause-repeats c = sent_twice

pub returns-clause-keeps : goal.returns-clause-keeps
returns-clause-keeps c = sent_once

pub returns-clause-full : goal.returns-clause-full
returns-clause-full c = sent_full

pub returns-clause-bounded : goal.returns-clause-bounded
returns-clause-bounded c = length-sent
