use Rattle.std.proofs.Common.{refl}
use Rattle.amo_desk.proofs.Conserving.{first_kept, first_moved, none_moved}
use Rattle.amo_desk.proofs.putting.put_first.Goals as goal

pub returns-in_default-clause-moves : goal.returns-in_default-clause-moves
returns-in_default-clause-moves g c = none_moved c.args.kept.now c.take.new.self c.args.service.now.host.pass c.args.service.now.host.pass c.in_default.ensures.none refl

pub returns-in_ok-put_back-in-Some-2-clause-moves : goal.returns-in_ok-put_back-in-Some-2-clause-moves
returns-in_ok-put_back-in-Some-2-clause-moves g c =
    let told = rw c.in-Some-2.is at c.in_ok-named.ensures.put in
    first_kept c.args.service.now.host.pass c.put.new.self.host.pass c.args.stream c.in-Some.named c.in-Some-2.named c.args.kept.now c.take.new.self c.put_back.new.self told.0 c.in-Some.ensures.some
    c.in_ok-put_back-in-Some-2.ensures told.1

pub returns-in-None-clause-moves : goal.returns-in-None-clause-moves
returns-in-None-clause-moves g c =
    first_moved c.args.service.now.host.pass c.put.new.self.host.pass c.args.stream c.in-Some.named c.args.kept.now c.take.new.self c.in-Some.ensures.some (rw c.in-None.is at c.in_ok-named.ensures.put)
