use Rattle.std.proofs.Common.{sym, subst, ◌∙◌}
use Rattle.amo_book.specs.Pass.{PassState}
use Rattle.amo_book.specs.Charge.{ChargeState}
use Rattle.amo_book.specs.Look.{Finds}
use Rattle.amo_book.specs.Steps.{IsPass, pass_of}
use Rattle.amo_book.proofs.Runs.{seen_by}
use Rattle.amo_book.proofs.book.Book.look.Goals as goal

pub put_back-requires-clause-held : goal.put_back-requires-clause-held
put_back-requires-clause-held c = let t = c.study.ensures.studied c.in-Some.automaton c.pass.inside.seat.me c.pass.invariant c.in-Some.ensures.taken.0 in (t.home, t.held)

pub invariant_of-pass-2 : goal.invariant_of-pass-2
invariant_of-pass-2 c =
    let t = c.study.ensures.studied c.in-Some.automaton c.pass.inside.seat.me c.pass.invariant c.in-Some.ensures.taken.0 in
    subst (IsPass c.pass.inside.number) (sym c.put_back.ensures.released) t.pass

pub returns-clause-finds : goal.returns-clause-finds
returns-clause-finds c =
    let p = c.pass.inside in
    let h = c.charge.inside in
    let summary = c.summary-summary.result in
    let t = c.study.ensures.studied c.in-Some.automaton p.seat.me c.pass.invariant c.in-Some.ensures.taken.0 in
    let now : PassState = pass_of c.put_back.new.seat.table_id p.number c.put_back.new.seat.me in
    subst (λ (v : PassState). Finds v now c.args.charge.now summary) c.pass.view_is
    (subst (λ (z : ChargeState). Finds (pass_of p.seat.table_id p.number p.seat.me) now z summary) c.charge.view_is
    (seen_by _ _ p.number p.seat.me c.study.new.seat.me c.put_back.new.seat.me h.seat.table_id h.site.place h.site.side h.site.stream h.mode
    c.in-Some.automaton summary (c.put_back.ensures.same.0 ∙ (c.study.ensures.same.0 ∙ c.take_as_held.ensures.same.0)) t c.put_back.ensures.released
    c.summary-summary.ensures c.in-Some.ensures.held))

pub returns-clause-right : goal.returns-clause-right
returns-clause-right c =
    let t = c.study.ensures.studied c.in-Some.automaton c.pass.inside.seat.me c.pass.invariant c.in-Some.ensures.taken.0 in
    let is : IsPass c.pass.inside.number c.put_back.new.seat.me = subst (IsPass c.pass.inside.number) (sym c.put_back.ensures.released) t.pass in
    is.right
