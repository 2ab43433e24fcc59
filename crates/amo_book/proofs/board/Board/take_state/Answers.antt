use Rattle.std.proofs.Common.{◌∷◌, Some, sym, ◌∙◌}
use Rattle.atomic_table.specs.Table.{rest}
use Rattle.amo_book.proofs.board.Board.take_state.Goals as goal

pub exchange-requires : goal.exchange-requires
exchange-requires c = let t = c.requires.held in (c.requires.own, (Some t.0, t.1 ∙ (λ i. (sym c.slot_of.ensures i, Some t.0) ∷ rest (sym t.1 i))))
