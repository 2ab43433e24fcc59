use Rattle.std.proofs.Common.{◌∙◌, subst}
use Rattle.amo_core.specs.declared.act.Act.{Act}
use Rattle.amo_book.specs.Pass.{PassState, GrownBy, event}
use Rattle.amo_book.specs.Steps.{pass_of}
use Rattle.amo_book.proofs.Runs.{grown_by}
use Rattle.amo_book.proofs.book.Book.call.Goals as goal

pub unreachable-requires : goal.unreachable-requires
unreachable-requires c = let taken = c.in-Some.ensures.taken in let known = c.requires.known c.in-Some.automaton taken.1 in
    c.in_default-reply.not-Some known.0 (c.advance-reply.ensures.reply ∙ known.1)

pub returns-clause-grown : goal.returns-clause-grown
returns-clause-grown c =
    let taken = c.in-Some.ensures.taken in
    let made = c.settle-position.ensures.made c.in-Some.automaton c.pass.inside.seat.me c.pass.invariant taken.0 in
    let now : PassState = pass_of c.settle-position.new.seat.table_id c.pass.inside.number c.settle-position.new.seat.me in
    subst (λ (v : PassState). GrownBy v now (event v.number c.args.site.side c.args.site.stream c.args.act c.in-Some-reply.reply)) c.pass.view_is
    (subst (λ (a : Act). GrownBy (pass_of c.pass.inside.seat.table_id c.pass.inside.number c.pass.inside.seat.me) now
    (event c.pass.inside.number c.args.site.side c.args.site.stream a c.in-Some-reply.reply)) c.of-told.ensures
    (grown_by _ _ _ c.pass.inside.seat.me c.settle-position.new.seat.me _ _ _ (c.settle-position.ensures.same.0 ∙ c.take.ensures.same.0) made))

pub returns-clause-answered : goal.returns-clause-answered
returns-clause-answered c =
    (c.settle-position.ensures.made c.in-Some.automaton c.pass.inside.seat.me c.pass.invariant c.in-Some.ensures.taken.0).counted
