use Rattle.std.specs.Prelude.{length}
use Rattle.amo_net.specs.Lossy.{Channel, SendsAll}
use Rattle.amo_net.proofs.kept_back.send_all.Given as goal

-- whatever sends those that are left from here on, sends all of them from the start on
abbrev pub invariant-datagrams : goal.invariant-datagrams
invariant-datagrams g l = (e : Channel g.row.W.Denot) → SendsAll g.W.Words.to_come l.fn.from l.datagrams.items l.channel e → SendsAll g.W.Words.to_come l.fn.from l.fn.datagrams.items l.fn.channel e

abbrev pub decreases-datagrams : goal.decreases-datagrams
decreases-datagrams g l = length l.datagrams.items
