use Rattle.std.proofs.Common.{◌≡◌, ◌∙◌, slice_get, Some, sym, ap, subst}
use Rattle.amo_object.specs.declared.step.End.TheVariants.{Sender}
use Rattle.amo_core.specs.Automaton.{mode_of}
use Rattle.amo_book.specs.Pass.{PassState}
use Rattle.amo_book.specs.Charge.{ChargeState}
use Rattle.amo_book.specs.Book.{BookState}
use Rattle.amo_book.specs.Drive.{Driven}
use Rattle.amo_book.specs.Steps.{pass_of, holding}
use Rattle.amo_book.proofs.Runs.{charge_of, driven_by}
use Rattle.amo_book.proofs.book.Book.finish.Goals as goal

pub settle-position-requires-clause-place : goal.settle-position-requires-clause-place
settle-position-requires-clause-place c =
    subst (λ (z : BookState × ChargeState). slice_get z.0.sides z.1.place ≡ Some (z.1.side, z.1.stream)) (λ i. (sym c.self.view_is i, sym c.charge.view_is i))
    c.requires.own.1.1

pub settle-position-requires-clause-held : goal.settle-position-requires-clause-held
settle-position-requires-clause-held c = let t = c.requires.held in
    (t.0, t.1, t.2, subst (λ (z : ChargeState). c.args.seat.now.me ≡ holding z.place t.0 t.1) (sym c.charge.view_is) t.3, t.4, t.5)

pub returns-clause-driven : goal.returns-clause-driven
returns-clause-driven c = λ x m old new pass held left writes found.
    let h = c.charge.inside in
    let made = c.settle-position.ensures.made x m pass (subst (λ (z : ChargeState). c.args.seat.now.me ≡ holding z.place x m) (sym c.charge.view_is) held) in
    let was : PassState = pass_of c.args.seat.now.table_id c.args.number m in
    let now : PassState = pass_of c.settle-position.new.seat.table_id c.args.number c.settle-position.new.seat.me in
    let then : ChargeState = charge_of h.seat.table_id h.site.place h.site.side h.site.stream c.mode-mode.result in
    subst (λ (z : ChargeState). Driven was now z then c.args.act.now.value old new
    (record { position = c.settle-position.result; length = c.args.length; mode = c.mode-mode.result })) c.charge.view_is
    (driven_by _ _ c.args.number m c.settle-position.new.seat.me h.seat.table_id h.site.place h.site.side h.site.stream h.mode c.mode-mode.result c.args.act.now.value
    x c.settle-position.result old new c.args.length c.settle-position.ensures.same.0 made writes (c.mode-mode.ensures ∙ ap mode_of left)
    (subst (λ (z : ChargeState). z.side ≡ Sender → mode_of x ≡ z.mode) (sym c.charge.view_is) found))
