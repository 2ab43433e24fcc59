use Rattle.std.proofs.Common.{arith}
use Rattle.amo_book.proofs.Gates.{frees}
use Rattle.amo_book.proofs.board.Board.free_gate.Goals as goal

pub store-requires : goal.store-requires
store-requires c = let key = c.args.self.now.keyed in let size = c.args.self.now.sized in let place = c.requires.place in let t = c.requires.held in
    (c.requires.own, omega arith, rw (key, c.gate_of.ensures) (frees _ _ _ _ _ c.args.place t.0 _ t.1 t.2))
