use Rattle.std.proofs.Common.{◌≡◌, ◌∷◌, drop, sym, subst}
use Rattle.amo_object.specs.declared.step.Step.{Step}
use Rattle.amo_object.specs.Queue.{Allows}
use Rattle.amo_object.specs.Delivery.{messages_got}
use Rattle.amo_resolve.specs.Telling.{known_of, state_of, Moves}
use Rattle.amo_resolve.proofs.Replicas.{get_moves, get_later}
use Rattle.amo_resolve.proofs.replica.Replica.take.Goals as goal

pub returns-in-Get-clause-moved : goal.returns-in-Get-clause-moved
returns-in-Get-clause-moved c =
    let got = c.args.got.now in
    let old = c.args.self.now in
    let new = c.leave.new.self in
    let e = c.leave.ensures in
    subst (λ (call : Step). Moves call (known_of got old) old.others (known_of got new) new.others) (sym c.in-Get.is)
    (get_moves got old new c.in-Get.field-0 c.requires.within (subst (λ (call : Step). Allows (state_of got old) call) c.in-Get.is c.requires.allowed).1 e.known e.next e.past e.others)

pub returns-in-Get-clause-later : goal.returns-in-Get-clause-later
returns-in-Get-clause-later c = λ later is.
    get_later c.args.got.now c.args.self.now.first c.leave.new.self.first c.in-Get.field-0 (messages_got later) c.leave.ensures.next
    (subst (λ (call : Step). drop c.args.self.now.first c.args.got.now ≡ messages_got (call ∷ later)) c.in-Get.is is)
