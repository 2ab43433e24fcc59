use Rattle.std.proofs.Common.{Option, Result, IfNone, IfOk, IfSome, refl, sym, ap, subst}
use Rattle.amo_packet.specs.declared.packet.OwnedPacket.{OwnedPacket}
use Rattle.amo_core.specs.declared.act.Act.{Act}
use Rattle.amo_core.specs.declared.act.Act.TheVariants as act
use Rattle.amo_book.specs.declared.drive.Done.{Done}
use Rattle.amo_host.specs.AtStream.{Delivers}
use Rattle.amo_host.specs.Station.{Station}
use Rattle.amo_host.specs.declared.turned.Kind.TheVariants as kind
use Rattle.amo_journal.specs.declared.version.Version.TheVariants.{Two}
use Rattle.amo_live.specs.declared.fault.LiveFault.{LiveFault}
use Rattle.amo_live.specs.declared.given_word.GivenWord.{GivenWord}
use Rattle.amo_live.specs.Due.{Resent}
use Rattle.amo_live.specs.Host.{Drives, MayNotBegin, Suits, given}
use Rattle.amo_live.proofs.Driving.{begins_none, deliver_one, goes_down_or_up, packet_stream, resend_again, start_one, start_together}
use Rattle.amo_live.proofs.Dues.{resent_by}
use Rattle.amo_live.proofs.acts.drive.Goals as goal

pub returns-in-Start-clause-driven : goal.returns-in-Start-clause-driven
returns-in-Start-clause-driven c =
    let pump = c.args.pump.now in let v = c.args.pass.now in let w = c.start.new.pass in let out = c.args.out.now in let new = c.start.new.out in
    subst (λ (a : Act). IfOk c.done_of.result (Drives pump v w out new c.args.stream a)) (sym c.in-Start.is)
    (subst (λ (r : Result (Option Done) LiveFault). IfOk r (Drives pump v w out new c.args.stream (act.Start c.in-Start.word))) (sym c.done_of.ensures)
    (start_one pump c.give.new.pump c.start.new.self v w out new c.args.stream c.args.now c.give.ensures.station (ap (λ (x : Station GivenWord). x.host) c.give.ensures.given) c.in-Start.word c.start.result
    (ap (λ (x : Station GivenWord). x.batches) c.give.ensures.given) c.give.ensures.word c.start.ensures.ok c.start.ensures.no_event))

pub returns-in-Batch-clause-driven : goal.returns-in-Batch-clause-driven
returns-in-Batch-clause-driven c =
    let pump = c.args.pump.now in let v = c.args.pass.now in let w = c.start-in-Batch.new.pass in let out = c.args.out.now in let new = c.start-in-Batch.new.out in
    subst (λ (a : Act). IfOk c.done_of-in-Batch.result (Drives pump v w out new c.args.stream a)) (sym c.in-Batch.is)
    (subst (λ (r : Result (Option Done) LiveFault). IfOk r (Drives pump v w out new c.args.stream (act.Batch c.in-Batch.word))) (sym c.done_of-in-Batch.ensures)
    (start_together pump c.give-in-Batch.new.pump c.start-in-Batch.new.self v w out new c.args.stream c.args.now c.give-in-Batch.ensures.station (ap (λ (x : Station GivenWord). x.host) c.give-in-Batch.ensures.given) c.in-Batch.word c.start-in-Batch.result
    (ap (λ (x : Station GivenWord). x.batches) c.give-in-Batch.ensures.given) c.give-in-Batch.ensures.word c.start-in-Batch.ensures.ok c.start-in-Batch.ensures.no_event))

pub returns-in-Resend-clause-driven : goal.returns-in-Resend-clause-driven
returns-in-Resend-clause-driven c =
    let pump = c.args.pump.now in let v = c.args.pass.now in let w = c.resend.new.pass in let out = c.args.out.now in let new = c.resend.new.out in
    subst (λ (a : Act). IfOk c.done_of-in-Resend.result (Drives pump v w out new c.args.stream a)) (sym c.in-Resend.is)
    (subst (λ (r : Result (Option Done) LiveFault). IfOk r (Drives pump v w out new c.args.stream act.Resend)) (sym c.done_of-in-Resend.ensures)
    (resend_again pump pump c.resend.new.self v w out new c.args.stream c.args.now c.requires.together.1 refl c.resend.result c.resend.ensures.ok c.resend.ensures.busy))

pub returns-in-Deliver-clause-driven : goal.returns-in-Deliver-clause-driven
returns-in-Deliver-clause-driven c =
    let pump = c.args.pump.now in let v = c.args.pass.now in let w = c.deliver.new.pass in let out = c.args.out.now in let new = c.deliver.new.out in
    let p = c.in-Deliver.packet in let word = c.in-Deliver.word in
    let suits : Suits Two pump.host.side c.args.stream (act.Deliver p word) = subst (λ (a : Act). Suits Two pump.host.side c.args.stream a) c.in-Deliver.is c.requires.suits in
    let delivers = subst (λ (q : OwnedPacket). IfOk c.deliver.result (Delivers (λ (words : GivenWord). given words.word) q c.args.now c.give-in-Deliver.new.pump c.deliver.new.self v w out new)) c.as_packet.ensures.value c.deliver.ensures.ok in
    subst (λ (a : Act). IfOk c.done_of-in-Deliver.result (Drives pump v w out new c.args.stream a)) (sym c.in-Deliver.is)
    (subst (λ (r : Result (Option Done) LiveFault). IfOk r (Drives pump v w out new c.args.stream (act.Deliver p word))) (sym c.done_of-in-Deliver.ensures)
    (deliver_one pump c.give-in-Deliver.new.pump c.deliver.new.self v w out new c.args.stream c.args.now c.give-in-Deliver.ensures.station (ap (λ (x : Station GivenWord). x.host) c.give-in-Deliver.ensures.given) p word c.deliver.result
    (packet_stream Two pump.host.side c.args.stream p word suits.1) c.give-in-Deliver.ensures.word suits.0 delivers c.deliver.ensures.no_event))

pub returns-in-Crash-clause-driven : goal.returns-in-Crash-clause-driven
returns-in-Crash-clause-driven c =
    let pump = c.args.pump.now in let v = c.args.pass.now in let w = c.crash.new.pass in let out = c.args.out.now in
    subst (λ (a : Act). IfOk c.done_of-in-Crash.result (Drives pump v w out out c.args.stream a)) (sym c.in-Crash.is)
    (subst (λ (r : Result (Option Done) LiveFault). IfOk r (Drives pump v w out out c.args.stream act.Crash)) (sym c.done_of-in-Crash.ensures)
    (goes_down_or_up pump pump c.crash.new.self v w out out c.args.stream c.args.now c.requires.together.1 refl act.Crash kind.Crash out c.crash.result c.crash.ensures.ok c.crash.ensures.busy))

pub returns-in-Recover-clause-driven : goal.returns-in-Recover-clause-driven
returns-in-Recover-clause-driven c =
    let pump = c.args.pump.now in let v = c.args.pass.now in let w = c.recover.new.pass in let out = c.args.out.now in
    subst (λ (a : Act). IfOk c.done_of-in-Recover.result (Drives pump v w out out c.args.stream a)) (sym c.in-Recover.is)
    (subst (λ (r : Result (Option Done) LiveFault). IfOk r (Drives pump v w out out c.args.stream act.Recover)) (sym c.done_of-in-Recover.ensures)
    (goes_down_or_up pump pump c.recover.new.self v w out out c.args.stream c.args.now c.requires.together.1 refl act.Recover kind.Recover out c.recover.result c.recover.ensures.ok c.recover.ensures.busy))

pub returns-in-Resend-clause-resent : goal.returns-in-Resend-clause-resent
returns-in-Resend-clause-resent c =
    let pump = c.args.pump.now in let v = c.args.pass.now in let w = c.resend.new.pass in let out = c.args.out.now in let new = c.resend.new.out in
    λ same. subst (λ (r : Result (Option Done) LiveFault). IfOk r (λ done. IfSome done (λ d. Resent c.args.now pump c.resend.new.self c.args.stream d.mode))) (sym c.done_of-in-Resend.ensures)
    (resent_by pump c.resend.new.self v w out new c.args.stream c.args.now c.requires.together.1 c.resend.result c.resend.ensures.ok)

pub returns-in-Start-clause-waits : goal.returns-in-Start-clause-waits
returns-in-Start-clause-waits c = λ begins.
    subst (λ (r : Result (Option Done) LiveFault). IfOk r (λ done. IfNone done (MayNotBegin c.args.pump.now.host c.args.stream))) (sym c.done_of.ensures)
    (begins_none c.args.pump.now c.give.new.pump c.start.new.self c.args.pass.now c.start.new.pass c.args.out.now c.start.new.out c.args.stream c.args.now c.give.ensures.station (ap (λ (x : Station GivenWord). x.host) c.give.ensures.given) c.start.result c.start.ensures.ok)

pub returns-in-Batch-clause-waits : goal.returns-in-Batch-clause-waits
returns-in-Batch-clause-waits c = λ begins.
    subst (λ (r : Result (Option Done) LiveFault). IfOk r (λ done. IfNone done (MayNotBegin c.args.pump.now.host c.args.stream))) (sym c.done_of-in-Batch.ensures)
    (begins_none c.args.pump.now c.give-in-Batch.new.pump c.start-in-Batch.new.self c.args.pass.now c.start-in-Batch.new.pass c.args.out.now c.start-in-Batch.new.out c.args.stream c.args.now c.give-in-Batch.ensures.station
    (ap (λ (x : Station GivenWord). x.host) c.give-in-Batch.ensures.given) c.start-in-Batch.result c.start-in-Batch.ensures.ok)
