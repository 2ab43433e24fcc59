use Rattle.std.proofs.lemmas.Result.{on_ok_weaker}
use Rattle.amo_audit.specs.Reader.{grown}
use Rattle.amo_audit.proofs.Pair.{first_comes, first_grows, second_comes, second_grows}
use Rattle.amo_audit.proofs.pair_audit.PairAudit.read_on.Goals as goal

pub returns-in-First : goal.returns-in-First
returns-in-First g c =
    on_ok_weaker c.read_on.result (λ (more, gives, same, comes). (
      more,
      gives,
      λ pieces others. first_grows c.args.which c.args.self.now _ pieces others (grown more pieces) c.in-First.is
          (λ have. first_comes c.args.self.now pieces others have c.read_on.new.self (grown more pieces) same (comes pieces)),
    )) c.read_on.ensures.more

pub returns-in-Second : goal.returns-in-Second
returns-in-Second g c =
    on_ok_weaker c.read_on-in-Second.result (λ (more, gives, same, comes). (
      more,
      gives,
      λ pieces others. second_grows c.args.which c.args.self.now _ pieces others (grown more pieces) c.in-Second.is
          (λ have. second_comes c.args.self.now others pieces have c.read_on-in-Second.new.self (grown more pieces) same (comes pieces)),
    )) c.read_on-in-Second.ensures.more
