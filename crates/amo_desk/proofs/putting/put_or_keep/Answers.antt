use Rattle.std.proofs.Common.{refl}
use Rattle.amo_live.specs.Service.{shown_by, spelling_of}
use Rattle.amo_desk.proofs.Conserving.{one_kept, one_moved}
use Rattle.amo_live.proofs.Showing.{shows_idle}
use Rattle.amo_desk.proofs.putting.put_or_keep.Goals as goal

pub returns-then-has-clause-moves : goal.returns-then-has-clause-moves
returns-then-has-clause-moves g c =
    one_kept c.args.service.now.host.pass c.args.service.now.host.pass c.args.stream c.args.named c.args.named c.args.kept.now c.keep.new.self refl c.in_ok-keep.ensures refl

pub returns-in_ok-keep-2-clause-moves : goal.returns-in_ok-keep-2-clause-moves
returns-in_ok-keep-2-clause-moves g c =
    let told = rw c.in-Some.is at c.in_ok-named.ensures.put in
    one_kept c.args.service.now.host.pass c.put.new.self.host.pass c.args.stream c.args.named c.in-Some.named c.args.kept.now c.keep-in-Some.new.self told.0 c.in_ok-keep-2.ensures told.1

pub returns-in_default-clause-moves : goal.returns-in_default-clause-moves
returns-in_default-clause-moves g c =
    one_moved c.args.service.now.host.pass c.put.new.self.host.pass c.args.stream c.args.named c.args.kept.now c.args.kept.now (c.has.ensures c.if-has.false) refl (rw c.in_default.is at c.in_ok-named.ensures.put)

pub returns-then-has-clause-shown : goal.returns-then-has-clause-shown
returns-then-has-clause-shown g c =
    let service = c.args.service.now in
    shows_idle (spelling_of service) service.host.pass service.host.pass (shown_by service) (shown_by service) refl refl
