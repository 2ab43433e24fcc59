use Rattle.std.proofs.Common.{arith}
use Rattle.amo_book.proofs.Seats.{looks}
use Rattle.amo_book.proofs.board.Board.load_count.Goals as goal

pub load-requires : goal.load-requires
load-requires g c = let key = c.args.self.now.keyed in let size = c.args.self.now.sized in let passes = c.requires.passes in
    (c.requires.own, omega arith, rw key (rw passes (looks _ _ _ _ _ _)))
