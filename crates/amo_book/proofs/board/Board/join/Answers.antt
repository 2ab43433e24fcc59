use Rattle.std.proofs.Common.{arith}
use Rattle.amo_book.proofs.Sharing.{joins}
use Rattle.amo_book.proofs.board.Board.join.Goals as goal

pub join_seat-requires : goal.join_seat-requires
join_seat-requires c = let key = c.args.self.now.keyed in let size = c.args.self.now.sized in
    (c.requires.own.0, c.requires.own.1, c.requires.rests.0, omega arith, rw key (joins _ _ _ _ _ _ _ c.requires.rests.1))
