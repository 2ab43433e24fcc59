use Rattle.std.proofs.Common.{◌≡◌, ◌≤◌, ◌-◌, [], None, vec_capacity}
use Rattle.amo_book.specs.Book.{Lists, first_pass}
use Rattle.amo_book.specs.Plays.{view}
use Rattle.amo_book.specs.Rule.{fresh}
use Rattle.amo_book.specs.Steps.{IsSame}
use Rattle.amo_book.proofs.board.Board.deal_passes.Given as goal

abbrev pub invariant-loop-number : goal.invariant-loop-number
invariant-loop-number l = record {
  same : IsSame l.fn.root l.root;
  fresh_still : l.root.me ≡ (view [] [] (fresh l.number (l.self.setup.passes - l.number)) None, []);
  dealt : Lists (first_pass l.self.table.shared.table_id) l.number l.passes.items;
  room : l.self.setup.passes ≤ vec_capacity l.passes;
}
