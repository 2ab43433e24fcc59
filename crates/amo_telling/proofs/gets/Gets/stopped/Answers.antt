use Rattle.std.proofs.Common.{◌+◌, ap}
use Rattle.amo_text.proofs.Cuts.{no_cut}
use Rattle.amo_telling.proofs.SoFar.{at_end}
use Rattle.amo_telling.proofs.gets.Gets.stopped.Goals as goal

pub returns-in-Some : goal.returns-in-Some
returns-in-Some c = λ version after json events have none.
    ((λ lacks. no_cut 10 c.args.rest.now _ _ lacks c.in-Some.ensures.found.0), none, ap (λ n. n + 1) have.lines)

pub returns-in-None : goal.returns-in-None
returns-in-None c = λ version after json events have none. at_end after json version c.args.self.now c.args.rest.now _ c.in-None.ensures.none c.whole.ensures events have
