use Rattle.std.proofs.Common.{◌≡◌, List, [], ◌++◌, None, vec_len}
use Rattle.amo_book.specs.Pass.{PassState}
use Rattle.amo_book.specs.Book.{Each}
use Rattle.amo_book.specs.Closed.{IsOf}
use Rattle.amo_book.specs.Gathering.{HasTaken}
use Rattle.amo_book.proofs.board.Board.gather.Given as goal

abbrev pub invariant-loop-pass : goal.invariant-loop-pass
invariant-loop-pass l = record {
  ours : l.root.table_id ≡ l.self.table.shared.table_id;
  rests : l.root.me.1 ≡ [];
  free : l.root.me.0.held ≡ None;
  own : Each (IsOf l.self.table.shared.table_id) l.passes.items;
  taken : List PassState;
  split : l.fn.passes.items ≡ l.passes.items ++ taken;
  all : Each (HasTaken l.root.me.0) taken;
}

abbrev pub decreases-loop-pass : goal.decreases-loop-pass
decreases-loop-pass l = vec_len l.passes
