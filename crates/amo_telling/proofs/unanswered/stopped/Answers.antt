use Rattle.amo_text.proofs.Cuts.{no_cut}
use Rattle.amo_telling.proofs.unanswered.stopped.Goals as goal

pub returns-in-Some : goal.returns-in-Some
returns-in-Some c = λ version none. ((λ lacks. no_cut 10 c.args.rest.now _ _ lacks c.in-Some.ensures.found.0), none)
