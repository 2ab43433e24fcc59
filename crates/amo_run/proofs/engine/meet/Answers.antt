use Rattle.std.proofs.Common.{ℕ, List, None, sym, ap, ◌∙◌, subst}
use Rattle.amo_world.specs.declared.event.Event.{Event}
use Rattle.amo_run.specs.Engine.{Advances, told_of}
use Rattle.amo_run.proofs.Turning.{crash_advances, recover_advances}
use Rattle.amo_run.proofs.engine.meet.Goals as goal

pub returns-in-Ok : goal.returns-in-Ok
returns-in-Ok g c = subst (λ (l : List (ℕ × Event)). Advances c.args.book.now c.args.pass.now c.crash.new.pass c.args.pump.now c.crash.new.self l)
    (sym (c.turn_of.ensures.told ∙ ap (λ (n : ℕ). told_of n None c.in-Ok.turned) c.number-number.ensures.number))
    (crash_advances c.args.book.now c.args.pump.now c.crash.new.self c.args.pass.now c.crash.new.pass c.args.stream c.args.now c.in-Ok.turned c.requires (c.crash.ensures.station.1, c.crash.ensures.station.0) c.in-Ok.ensures.ok c.turn_of.ensures.small)

pub returns-in-Ok-recover : goal.returns-in-Ok-recover
returns-in-Ok-recover g c = subst (λ (l : List (ℕ × Event)). Advances c.args.book.now c.args.pass.now c.recover.new.pass c.args.pump.now c.recover.new.self l)
    (sym (c.turn_of-in-Ok-recover.ensures.told ∙ ap (λ (n : ℕ). told_of n None c.in-Ok-recover.turned) c.number-number.ensures.number))
    (recover_advances c.args.book.now c.args.pump.now c.recover.new.self c.args.pass.now c.recover.new.pass c.args.stream c.args.now c.in-Ok-recover.turned c.requires (c.recover.ensures.station.1, c.recover.ensures.station.0) c.in-Ok-recover.ensures.ok c.turn_of-in-Ok-recover.ensures.small)
