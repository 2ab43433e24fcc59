use Rattle.amo_window.proofs.WindowLemmas.{out-unopened}
use Rattle.amo_window.proofs.window.Window.new.Goals as goal

pub returns-clause-none : goal.returns-clause-none
returns-clause-none c = rw c.in_ok-permits.ensures.empty (out-unopened c.args.limit)
