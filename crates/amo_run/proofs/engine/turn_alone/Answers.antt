use Rattle.std.proofs.Common.{ℕ, List, None, sym, ap, ◌∙◌, subst}
use Rattle.amo_world.specs.declared.event.Event.{Event}
use Rattle.amo_run.specs.Engine.{Advances, told_of}
use Rattle.amo_run.proofs.Turning.{alone_advances, alone_ends}
use Rattle.amo_run.proofs.engine.turn_alone.Goals as goal

pub returns-in-Ok-clause-advances : goal.returns-in-Ok-clause-advances
returns-in-Ok-clause-advances g c =
    let a : Advances c.args.book.now c.args.pass.now c.turn.new.pass c.args.pump.now c.turn.new.self (told_of c.args.pass.now.number None c.in-Ok.turned) =
    alone_advances c.args.book.now c.args.pump.now c.turn.new.self c.args.pass.now c.turn.new.pass g.W.Words.to_come c.args.now c.args.out.now c.turn.new.out c.in-Ok.turned
    c.requires (c.turn.ensures.station.1, c.turn.ensures.station.0) c.number-number.ensures.right c.in-Ok.ensures.turned c.turn_of.ensures.small in
    subst (λ (l : List (ℕ × Event)). Advances c.args.book.now c.args.pass.now c.turn.new.pass c.args.pump.now c.turn.new.self l)
    (sym (c.turn_of.ensures.told ∙ ap (λ (n : ℕ). told_of n None c.in-Ok.turned) (c.number-number.ensures.number ∙ a.tells.number))) a

pub returns-in-Ok-clause-due : goal.returns-in-Ok-clause-due
returns-in-Ok-clause-due g c = λ ends. alone_ends c.args.book.now c.args.pump.now c.turn.new.self c.args.pass.now c.turn.new.pass g.W.Words.to_come c.args.now c.args.out.now c.turn.new.out c.in-Ok.turned
    c.in-Ok.ensures.turned (sym c.turn_of.ensures.resent ∙ ends)
