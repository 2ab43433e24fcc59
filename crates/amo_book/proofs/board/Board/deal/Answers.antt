use Rattle.std.proofs.Common.{add-one, arith}
use Rattle.amo_book.proofs.Sharing.{deals}
use Rattle.amo_book.proofs.board.Board.deal.Goals as goal

pub split_seat-requires : goal.split_seat-requires
split_seat-requires c = let key = c.args.self.now.keyed in let size = c.args.self.now.sized in
    (c.requires.own, omega arith, rw (key, c.requires.fresh, add-one) (deals _ _ _ _ c.args.pass c.args.left))
