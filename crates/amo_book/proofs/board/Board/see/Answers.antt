use Rattle.std.proofs.Common.{◌∙◌, sym, arith}
use Rattle.amo_book.specs.Pass.{automaton_after}
use Rattle.amo_book.proofs.Histories.{state_at-is}
use Rattle.amo_book.proofs.Seats.{sees}
use Rattle.amo_book.proofs.board.Board.see.Goals as goal

pub load-requires : goal.load-requires
load-requires g c = let key = c.args.self.now.keyed in let size = c.args.self.now.sized in let held = c.requires.held in let e = c.requires.side in (
  c.requires.own,
  omega arith,
  rw key (sees _ _ _ _ _ c.args.site.place _ held.0 _ _ held.1
      (λ log. state_at-is c.args.self.now.setup.sides.items c.args.site.place _ _ log c.requires.place ∙ (λ i. automaton_after (sym e.0 i) (sym e.1 i) log))),
)
