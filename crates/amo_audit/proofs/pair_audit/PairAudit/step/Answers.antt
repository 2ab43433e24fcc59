use Rattle.std.proofs.Common.{◌∙◌, List, Option, refl, sym, subst}
use Rattle.std.specs.Option.{option_to_list}
use Rattle.amo_world.specs.declared.event.Event.{Event}
use Rattle.amo_audit.specs.Merge.{MayGo}
use Rattle.amo_audit.proofs.Pair.{first_looks, first_takes, first_waits, second_looks, second_takes, second_waits}
use Rattle.amo_audit.proofs.pair_audit.PairAudit.step.Goals as goal

pub returns-in-Waits : goal.returns-in-Waits
returns-in-Waits c = λ pieces pieces' have. first_looks c.args.self.now pieces pieces' have c.look.new.self c.in_ok-look.ensures.looks

pub offer_next-requires-clause-stream : goal.offer_next-requires-clause-stream
offer_next-requires-clause-stream c =
    let (pieces, pieces', have) = c.requires in
    (first_looks c.args.self.now pieces pieces' have c.look.new.self c.in_ok-look.ensures.looks).first.stream

pub returns-in-Taken : goal.returns-in-Taken
returns-in-Taken c = λ pieces pieces' have.
    let looked = first_looks c.args.self.now pieces pieces' have c.look.new.self c.in_ok-look.ensures.looks in
    first_takes _ pieces pieces' looked c.offer_next.new.world c.offer_next.new.journal _ (rw c.in-Taken.is at c.in_ok-offer_next.ensures.offers) c.in_ok-offer_next.ensures.over c.in_ok-offer_next.ensures.come refl

pub returns-in-Waits-3 : goal.returns-in-Waits-3
returns-in-Waits-3 c = λ pieces pieces' have.
    let looked = first_looks c.args.self.now pieces pieces' have c.look.new.self c.in_ok-look.ensures.looks in
    let waits = first_waits _ pieces pieces' looked c.offer_next.new.world c.offer_next.new.journal (rw c.in-Waits-2.is at c.in_ok-offer_next.ensures.offers) c.in_ok-offer_next.ensures.over c.in_ok-offer_next.ensures.come in
    second_looks _ pieces pieces' waits c.look-2.new.self c.in_ok-look-2.ensures.looks

pub offer_next-requires-2-clause-stream : goal.offer_next-requires-2-clause-stream
offer_next-requires-2-clause-stream c =
    let (pieces, pieces', have) = c.requires in
    let looked = first_looks c.args.self.now pieces pieces' have c.look.new.self c.in_ok-look.ensures.looks in
    let waits = first_waits _ pieces pieces' looked c.offer_next.new.world c.offer_next.new.journal (rw c.in-Waits-2.is at c.in_ok-offer_next.ensures.offers) c.in_ok-offer_next.ensures.over c.in_ok-offer_next.ensures.come in
    (second_looks _ pieces pieces' waits c.look-2.new.self c.in_ok-look-2.ensures.looks).second.stream

pub returns-in-Taken-2 : goal.returns-in-Taken-2
returns-in-Taken-2 c = λ pieces pieces' have.
    let looked = first_looks c.args.self.now pieces pieces' have c.look.new.self c.in_ok-look.ensures.looks in
    let offers = rw c.in-Waits-2.is at c.in_ok-offer_next.ensures.offers in
    let (same, not, next) = offers in
    let waits = first_waits _ pieces pieces' looked c.offer_next.new.world c.offer_next.new.journal offers c.in_ok-offer_next.ensures.over c.in_ok-offer_next.ensures.come in
    let both = second_looks _ pieces pieces' waits c.look-2.new.self c.in_ok-look-2.ensures.looks in
    second_takes _ pieces pieces' both c.offer_next-2.new.world c.offer_next-2.new.journal _
    (λ none. c.in_ok-offer_next.ensures.over ∙ c.in_ok-look.ensures.over c.in-Clear.is (sym next ∙ none))
    (λ may. not (subst (λ (w : List Event). MayGo w (option_to_list c.look.new.self.next)) same (subst (λ (n : Option Event). MayGo c.offer_next.new.world (option_to_list n)) next may)))
    (rw c.in-Taken-2.is at c.in_ok-offer_next-2.ensures.offers) c.in_ok-offer_next-2.ensures.over c.in_ok-offer_next-2.ensures.come refl

pub returns-in-Waits-4 : goal.returns-in-Waits-4
returns-in-Waits-4 c = λ pieces pieces' have.
    let looked = first_looks c.args.self.now pieces pieces' have c.look.new.self c.in_ok-look.ensures.looks in
    let waits = first_waits _ pieces pieces' looked c.offer_next.new.world c.offer_next.new.journal (rw c.in-Waits-2.is at c.in_ok-offer_next.ensures.offers) c.in_ok-offer_next.ensures.over c.in_ok-offer_next.ensures.come in
    let both = second_looks _ pieces pieces' waits c.look-2.new.self c.in_ok-look-2.ensures.looks in
    c.found.ensures pieces pieces'
    (second_waits _ pieces pieces' both c.offer_next-2.new.world c.offer_next-2.new.journal (rw c.in-Waits-4.is at c.in_ok-offer_next-2.ensures.offers) c.in_ok-offer_next-2.ensures.over c.in_ok-offer_next-2.ensures.come)
