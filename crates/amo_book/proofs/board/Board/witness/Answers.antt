use Rattle.std.proofs.Common.{arith}
use Rattle.amo_book.proofs.Sharing.{witnesses}
use Rattle.amo_book.proofs.board.Board.witness.Goals as goal

pub split_seat-requires : goal.split_seat-requires
split_seat-requires c = let key = c.args.self.now.keyed in let size = c.args.self.now.sized in
    (c.requires.own, omega arith, rw key (witnesses _ _ _ _ _))
