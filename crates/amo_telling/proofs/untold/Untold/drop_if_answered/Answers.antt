use Rattle.std.proofs.Common.{◌-◌, refl, rules, set, sym, true}
use Rattle.amo_telling.proofs.Untolds.{one_marked}
use Rattle.amo_telling.proofs.untold.Untold.drop_if_answered.Goals as goal

pub returns-in-Some-clause-dropped : goal.returns-in-Some-clause-dropped
returns-in-Some-clause-dropped c =
    let now = record c.args.self.now { puts = c.remove.new.self; answered = set c.args.self.now.answered (c.in-Some.put.stream - 1) true } in
    one_marked c.args.self.now now c.args.number c.in-Some.put (sym c.in-Some.ensures.value) (c.if-not-is_answered.ensures refl) refl (search rules) c.in-Some.ensures.updates.1 c.in-Some.ensures.updates.2
