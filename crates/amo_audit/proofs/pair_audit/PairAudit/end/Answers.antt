use Rattle.amo_audit.proofs.Pair.{first_comes, second_comes}
use Rattle.amo_audit.proofs.pair_audit.PairAudit.end.Goals as goal

pub returns-in-First : goal.returns-in-First
returns-in-First c = λ pieces pieces' have. first_comes c.args.self.now pieces pieces' have c.end.new.self pieces c.end.ensures.same (λ events has. c.end.ensures.come pieces events has)

pub returns-in-Second : goal.returns-in-Second
returns-in-Second c = λ pieces pieces' have. second_comes c.args.self.now pieces pieces' have c.end-in-Second.new.self pieces' c.end-in-Second.ensures.same (λ events has. c.end-in-Second.ensures.come pieces' events has)
