use Rattle.std.proofs.Common.{arith}
use Rattle.amo_net.proofs.Sendings.{sent_once, taken_first}
use Rattle.amo_net.proofs.laws.nothing_overtakes_without_words.Goals as goal

pub returns-clause-last : goal.returns-clause-last
returns-clause-last c = λ bytes queue. sent_once 2 bytes queue (omega arith)

pub returns-clause-first : goal.returns-clause-first
returns-clause-first c = taken_first
