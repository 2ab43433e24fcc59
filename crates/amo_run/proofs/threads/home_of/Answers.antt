use Rattle.amo_run.proofs.Crews.{sofar_new}
use Rattle.amo_run.proofs.threads.home_of.Goals as goal

pub returns-clause-so_far : goal.returns-clause-so_far
returns-clause-so_far c = sofar_new c.args.roster c.args.version c.args.book.now _ c.requires c.new-2.ensures.items
