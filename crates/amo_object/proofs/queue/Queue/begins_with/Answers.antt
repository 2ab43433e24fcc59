use Rattle.std.proofs.Common.{rules, arith, ◌≡◌, slice_get, Some}
use Rattle.std.proofs.lemmas.Grind.{common_steps}
use Rattle.std.proofs.lemmas.Option.{gets}
use Rattle.amo_object.proofs.queue.Queue.begins_with.Goals as goal

pub returns-in-Some : goal.returns-in-Some
returns-in-Some c =
    let first : slice_get c.args.self.now.messages 0 ≡ Some c.in-Some.first.now = grind (arith, common_steps, gets) in
    search rules
