use Rattle.std.proofs.Common.{◌∷◌}
use Rattle.std.proofs.lemmas.Result.{IfOk-weaker}
use Rattle.amo_audit.proofs.Pair.{first_comes, first_grows, second_comes, second_grows}
use Rattle.amo_audit.proofs.pair_audit.PairAudit.begin.Goals as goal

pub returns-in-First : goal.returns-in-First
returns-in-First g c = IfOk-weaker c.begin.result _ _ (λ is_piece given is.
    let (begun, gives, same, comes) = given is in (
      begun,
      gives,
      λ pieces others. first_grows c.args.which c.args.self.now _ pieces others (begun ∷ pieces) c.in-First.is
          (λ have. first_comes c.args.self.now pieces others have c.begin.new.self (begun ∷ pieces) same (comes pieces)),
    )) c.begin.ensures.piece

pub returns-in-Second : goal.returns-in-Second
returns-in-Second g c = IfOk-weaker c.begin-in-Second.result _ _ (λ is_piece given is.
    let (begun, gives, same, comes) = given is in (
      begun,
      gives,
      λ pieces others. second_grows c.args.which c.args.self.now _ pieces others (begun ∷ pieces) c.in-Second.is
          (λ have. second_comes c.args.self.now others pieces have c.begin-in-Second.new.self (begun ∷ pieces) same (comes pieces)),
    )) c.begin-in-Second.ensures.piece
