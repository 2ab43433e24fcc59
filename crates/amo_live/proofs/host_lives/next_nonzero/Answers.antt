use Rattle.amo_live.specs.HostLives.{to_come}
use Rattle.amo_live.proofs.OwnWords.{behind_on, behind_one}
use Rattle.amo_live.proofs.host_lives.next_nonzero.Goals as goal

pub returns-in_err-word-clause-behind : goal.returns-in_err-word-clause-behind
returns-in_err-word-clause-behind c = behind_one (to_come c.args.words.now) (to_come c.next.new.self) c.next.ensures.rest

pub returns-in-0-clause-behind : goal.returns-in-0-clause-behind
returns-in-0-clause-behind c =
    let first = to_come c.args.words.now in let then = to_come c.next.new.self in let last = to_come c.next-in-0.new.self in
    behind_on first then last (behind_one first then c.next.ensures.rest) (behind_one then last c.next-in-0.ensures.rest)

pub returns-in_default-clause-behind : goal.returns-in_default-clause-behind
returns-in_default-clause-behind c = behind_one (to_come c.args.words.now) (to_come c.next.new.self) c.next.ensures.rest
