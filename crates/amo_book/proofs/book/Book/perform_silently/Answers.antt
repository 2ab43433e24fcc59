use Rattle.std.proofs.Common.{◌≡◌, [], Option, None, Some, refl, sym, ap, ◌∙◌, subst}
use Rattle.atomic_table.specs.Seated.{TableId}
use Rattle.amo_object.specs.declared.step.End.TheVariants.{Sender}
use Rattle.amo_packet.specs.declared.packet.OwnedPacket.{OwnedPacket}
use Rattle.amo_core.specs.declared.act.Act.{Act}
use Rattle.amo_core.specs.declared.reply.Reply.TheVariants as reply
use Rattle.amo_core.specs.Automaton.{row, mode_of, Writes}
use Rattle.amo_book.specs.Pass.{PassState}
use Rattle.amo_book.specs.Charge.{ChargeState}
use Rattle.amo_book.specs.Drive.{Driven}
use Rattle.amo_book.specs.Steps.{IsStateOf, holding, pass_of}
use Rattle.amo_book.proofs.Replies.{suited_known}
use Rattle.amo_book.proofs.book.Book.perform_silently.Goals as goal

pub finish-requires-clause-own : goal.finish-requires-clause-own
finish-requires-clause-own c =
    (c.take_as_held.ensures.same.0 ∙ (ap (λ (v : PassState). v.book) c.pass.view_is ∙ c.requires.book.0), c.requires.book.1)

pub finish-requires-clause-held : goal.finish-requires-clause-held
finish-requires-clause-held c =
    let x = c.in-Some.automaton in
    let m = c.pass.inside.seat.me in
    let taken = c.in-Some.ensures.taken in
    let told = sym c.of-told.ensures in (
      x,
      m,
      c.pass.invariant,
      subst (λ (z : ChargeState). c.take_as_held.new.seat.me ≡ holding z.place x m) c.charge.view_is taken.0,
      subst (λ (a : Act). c.advance.new.self ≡ (row x a).state) told c.advance.ensures.state,
      subst (λ (a : Act). (row x a).reply ≡ Some reply.Done) told
          (suited_known c.args.charge.now c.args.act c.requires.suits x (subst (λ (z : ChargeState). IsStateOf z.side z.stream x) c.charge.view_is taken.1)),
    )

pub returns-clause-driven : goal.returns-clause-driven
returns-clause-driven c =
    let p = c.pass.inside in
    let x = c.in-Some.automaton in
    let now : PassState = pass_of c.finish.new.seat.table_id p.number c.finish.new.seat.me in
    let told = sym c.of-told.ensures in (
      c.finish.ensures.length,
      (
        [],
        [],
        subst (λ (v : PassState). Driven v now c.args.charge.now c.finish.new.charge c.args.act [] [] c.finish.result) c.pass.view_is
            (subst (λ (z : TableId × Act). Driven (pass_of z.0 p.number p.seat.me) now c.args.charge.now c.finish.new.charge z.1 [] [] c.finish.result)
            (λ i. (c.take_as_held.ensures.same.0 i, c.of-told.ensures i))
            (c.finish.ensures.driven x p.seat.me [] [] c.pass.invariant
            (subst (λ (z : ChargeState). c.take_as_held.new.seat.me ≡ holding z.place x p.seat.me) c.charge.view_is c.in-Some.ensures.taken.0)
            (subst (λ (a : Act). c.advance.new.self ≡ (row x a).state) told c.advance.ensures.state)
            (subst (λ (a : Act). Writes (row x a).emitted [] [] None) told
            (subst (λ (e : Option OwnedPacket). Writes e [] [] None) (sym (c.requires.silent x)) (refl, refl)))
            (subst (λ (z : ChargeState). z.side ≡ Sender → mode_of x ≡ z.mode) c.charge.view_is c.in-Some.ensures.held))),
      ),
    )
