use Rattle.std.proofs.Common.{List, sym, ap, ◌∙◌, subst}
use Rattle.amo_world.specs.declared.event.Event.{Event}
use Rattle.amo_world.specs.History.{Extends, events_of}
use Rattle.amo_world.proofs.Extensions.{itself}
use Rattle.amo_book.specs.Pass.{PassState, mine}
use Rattle.amo_book.specs.Book.{BookState}
use Rattle.amo_book.specs.Steps.{IsPass}
use Rattle.amo_book.specs.Plays.{Sat}
use Rattle.amo_book.specs.Rule.{AllBelow}
use Rattle.amo_book.proofs.Runs.{sees}
use Rattle.amo_book.proofs.book.Book.meet.Goals as goal

pub invariant_of-one : goal.invariant_of-one
invariant_of-one c = (sees c.one.inside.number c.learn-2.ensures.looks.0 c.learn.new.other.me c.learn.new.seat.me.0 _
    (subst (IsPass c.one.inside.number) (sym c.learn.ensures.same.2) c.one.invariant) c.learn-2.ensures.looks.1).0

pub invariant_of-two : goal.invariant_of-two
invariant_of-two c =
    let t = sees c.two.inside.number c.learn.ensures.looks.0 c.two.inside.seat.me c.one.inside.seat.me.0 _ c.two.invariant c.learn.ensures.looks.1 in
    subst (IsPass c.two.inside.number) (sym c.learn-2.ensures.same.2) t.0

pub returns : goal.returns
returns c =
    let t = sees c.two.inside.number c.learn.ensures.looks.0 c.two.inside.seat.me c.one.inside.seat.me.0 _ c.two.invariant c.learn.ensures.looks.1 in
    let still = c.learn.ensures.same.2 in
    let still' = c.learn-2.ensures.same.2 in
    let u = sees c.one.inside.number c.learn-2.ensures.looks.0 c.learn.new.other.me c.learn.new.seat.me.0 _
    (subst (IsPass c.one.inside.number) (sym still) c.one.invariant) c.learn-2.ensures.looks.1 in
    let peopled = ap (λ (b : BookState). b.passes) c.self.view_is in
    let history : List Event = c.learn.new.seat.me.0.seen in record {
      same = (
        record {
          book = c.learn-2.ensures.same.0.0 ∙ (c.learn.ensures.same.1.0 ∙ ap (λ (v : PassState). v.book) c.one.view_is);
          number = ap (λ (v : PassState). v.number) c.one.view_is;
          mine_stays = u.3 ∙ (ap (λ (m : Sat). events_of c.one.inside.number m.0.seen) still ∙ ap mine c.one.view_is);
        },
        record {
          book = c.learn-2.ensures.same.1.0 ∙ (c.learn.ensures.same.0.0 ∙ ap (λ (v : PassState). v.book) c.two.view_is);
          number = ap (λ (v : PassState). v.number) c.two.view_is;
          mine_stays = ap (λ (m : Sat). events_of c.two.inside.number m.0.seen) still' ∙ (t.3 ∙ ap mine c.two.view_is);
        },
      );
      met = (
        history,
        subst (λ (v : PassState). Extends history v.seen) c.one.view_is t.2,
        subst (λ (v : PassState). Extends history v.seen) c.two.view_is t.1,
        u.2,
        subst (λ (m : Sat). Extends m.0.seen history) (sym still') (itself history),
      );
      right = (u.0.right, (subst (IsPass c.two.inside.number) (sym still') t.0).right);
      later = subst (λ (m : Sat). Extends c.learn-2.new.seat.me.0.seen m.0.seen) (sym still') u.2;
      no_others = (
        subst (λ n. AllBelow n c.learn-2.new.seat.me.0.seen) peopled c.learn-2.ensures.ours,
        subst (λ n. AllBelow n c.learn-2.new.other.me.0.seen) peopled (subst (λ (m : Sat). AllBelow c.self.inside.board.setup.passes m.0.seen) (sym still') c.learn.ensures.ours),
      );
    }
