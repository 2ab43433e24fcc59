use Rattle.std.proofs.Common.{ap, ◌∙◌}
use Rattle.amo_book.specs.Plays.{Sat}
use Rattle.amo_book.specs.Steps.{released}
use Rattle.amo_book.proofs.board.Board.put_back.Goals as goal

pub free_gate-requires-clause-held : goal.free_gate-requires-clause-held
free_gate-requires-clause-held c = let m = c.give_state.ensures.moved in
    (c.args.state, ap (λ (m : Sat). m.1) m, ap (λ (m : Sat). m.0.held) m ∙ c.requires.held.1)

pub returns-clause-released : goal.returns-clause-released
returns-clause-released c = c.free_gate.ensures.freed ∙ ap (λ (m : Sat). released m.0) c.give_state.ensures.moved
