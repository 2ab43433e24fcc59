use Rattle.std.proofs.Common.{List, [], ◌∷◌, ◌++◌, ap, ◌∙◌, subst, append_assoc}
use Rattle.amo_book.specs.Pass.{PassState}
use Rattle.amo_book.specs.Book.{Each}
use Rattle.amo_book.specs.Closed.{IsOf}
use Rattle.amo_book.proofs.Gathers.{each-split, took_self, took_one}
use Rattle.amo_book.proofs.board.Board.gather.Goals as goal

pub loop-pass-init : goal.loop-pass-init
loop-pass-init c = let id = c.args.self.now.table.shared.table_id in let e = c.in-Some.ensures.items in
    let ours = each-split (IsOf id) c.pop.new.self.items (c.in-Some.first ∷ []) (subst (Each (IsOf id)) e c.requires.own) in record {
      ours = ap (λ (v : PassState). v.book) c.first.view_is ∙ ours.1.0;
      rests = c.first.invariant.home;
      free = c.first.invariant.held;
      own = ours.0;
      taken = c.in-Some.first ∷ [];
      split = e;
      all = (took_self c.first.inside.seat.table_id c.first.inside.number c.first.inside.seat.me c.in-Some.first c.first.view_is c.first.invariant, tt);
    }

pub join-requires-clause-own : goal.join-requires-clause-own
join-requires-clause-own c = let id = c.args.self.now.table.shared.table_id in let e = c.in-Some-pop.ensures.items in
    let ours = each-split (IsOf id) c.pop-in-loop-pass.new.self.items (c.in-Some-pop.pass ∷ []) (subst (Each (IsOf id)) e c.loop-pass.invariant.own) in
    (c.loop-pass.invariant.ours, ap (λ (v : PassState). v.book) c.pass.view_is ∙ ours.1.0)

pub loop-pass-preserved : goal.loop-pass-preserved
loop-pass-preserved c = let i = c.loop-pass.invariant in let id = c.args.self.now.table.shared.table_id in let e = c.in-Some-pop.ensures.items in
    let ours = each-split (IsOf id) c.pop-in-loop-pass.new.self.items (c.in-Some-pop.pass ∷ []) (subst (Each (IsOf id)) e i.own) in
    let t = took_one c.loop-pass.root.me c.join.new.seat.me c.look.new.seat.me c.pass.inside.seat.me.0 c.look.result c.in-Some-pop.pass i.taken c.join.ensures.same.1 c.look.ensures.looks
    (took_self c.pass.inside.seat.table_id c.pass.inside.number c.pass.inside.seat.me c.in-Some-pop.pass c.pass.view_is c.pass.invariant) i.all in record {
      ours = c.look.ensures.same.0 ∙ (c.join.ensures.same.0.0 ∙ i.ours);
      rests = t.1 ∙ i.rests;
      free = t.2 ∙ i.free;
      own = ours.0;
      taken = c.in-Some-pop.pass ∷ i.taken;
      split = i.split ∙ (ap (λ (l : List PassState). l ++ i.taken) e ∙ append_assoc c.pop-in-loop-pass.new.self.items (c.in-Some-pop.pass ∷ []) i.taken);
      all = t.0;
    }
