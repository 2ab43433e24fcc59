use Rattle.std.proofs.Common.{◌≡◌, ◌+◌, ◌-◌, List, [], sym, ◌∙◌, subst, arith, None}
use Rattle.amo_book.specs.Book.{Lists, first_pass}
use Rattle.amo_book.specs.Pass.{PassState}
use Rattle.amo_book.specs.Plays.{view}
use Rattle.amo_book.specs.Rule.{fresh}
use Rattle.amo_book.proofs.Fills.{lists-more}
use Rattle.amo_book.proofs.board.Board.deal_passes.Goals as goal

pub loop-number-preserved : goal.loop-number-preserved
loop-number-preserved c =
    let i = c.loop-number.invariant in
    let id = c.args.self.now.table.shared.table_id in
    let dealt = c.deal-seat.ensures in
    let pushed = c.push_reserved.ensures in
    let left : c.args.self.now.setup.passes - (c.loop-number.number + 1) ≡ c.args.self.now.setup.passes - c.loop-number.number - 1 = omega arith in
    let made : PassState = record { book = c.deal-seat.result.table_id; number = c.loop-number.number; seen = c.deal-seat.result.me.0.seen } in
    let book = dealt.dealt.0 ∙ (i.same.0 ∙ c.requires.own) in
    let is : made ≡ first_pass id c.loop-number.number =
    λ j. record { book = book j; number = c.loop-number.number; seen = (dealt.dealt.1 j).0.seen } in
    record {
      same = (dealt.same.0.0 ∙ i.same.0, dealt.same.0.1 ∙ i.same.1);
      fresh_still = dealt.same.1 ∙ (λ j. (view [] [] (fresh (c.loop-number.number + 1) (sym left j)) None, []));
      dealt = subst (λ (l : List PassState). Lists (first_pass id) (c.loop-number.number + 1) l) (sym pushed.items)
          (lists-more (first_pass id) c.loop-number.number c.loop-number.passes.items made is i.dealt);
      room = let kept = pushed.capacity in let room = i.room in omega arith;
    }
