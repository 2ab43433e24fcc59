use Rattle.std.proofs.Common.{ap, subst}
use Rattle.amo_book.specs.Plays.{Sat}
use Rattle.amo_book.specs.Steps.{IsStateOf}
use Rattle.amo_book.proofs.Runs.{took_out}
use Rattle.amo_book.proofs.board.Board.take.Goals as goal

pub take_state-requires-clause-held : goal.take_state-requires-clause-held
take_state-requires-clause-held c = let won = c.try_gate.ensures.won c.if-not-try_gate.false in (won.0, ap (λ (m : Sat). m.1) won.2)

pub returns-clause-taken : goal.returns-clause-taken
returns-clause-taken c = let won = c.try_gate.ensures.won c.if-not-try_gate.false in let moved = c.take_state.ensures.moved in
    let t = took_out c.args.site.place won.0 c.take_state.result c.args.seat.now.me c.try_gate.new.seat.me c.take_state.new.seat.me won.2 moved.0 moved.1 in (t.1, subst (IsStateOf c.args.site.side c.args.site.stream) t.0 won.1)
