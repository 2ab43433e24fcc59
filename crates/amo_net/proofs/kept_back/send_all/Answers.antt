use Rattle.std.proofs.Common.{List, ℕ, sym, subst}
use Rattle.amo_net.specs.Lossy.{SendsAll}
use Rattle.amo_net.proofs.kept_back.send_all.Goals as goal

pub datagrams-preserved : goal.datagrams-preserved
datagrams-preserved g c = λ e h. c.datagrams.invariant e
    (subst (λ (l : List (List ℕ)). SendsAll g.W.Words.to_come c.args.from l c.datagrams.channel e) (sym c.in-Some.ensures.items) (c.queue.new.self, c.queue.ensures, h))
