use Rattle.std.proofs.Common.{take, rules}
use Rattle.amo_door.proofs.Incoming.{read_at_close, read_more}
use Rattle.amo_door.proofs.connection.Connection.take.Goals as goal

pub returns-clause-read : goal.returns-clause-read
returns-clause-read c = λ reader came past is. read_more reader came past c.args.self.now _ (take c.min-count.result c.args.bytes.now) (search rules) is

pub returns-then-eq-clause-read : goal.returns-then-eq-clause-read
returns-then-eq-clause-read c = λ reader came past is. read_at_close reader came past c.args.self.now c.throw.new.self _ (search rules) is
