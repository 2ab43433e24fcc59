use Rattle.std.proofs.Common.{◌≡◌, ◌<◌, suc, length, slice_set, subst, sym, arith}
use Rattle.amo_live.specs.Unanswered.{ended}
use Rattle.amo_live.proofs.Keeping.{ends, not_ended}
use Rattle.amo_live.proofs.unanswered.Unanswered.end.Goals as goal

pub returns-in_default : goal.returns-in_default
returns-in_default c = not_ended c.args.stream c.args.messages c.args.self.now c.in_default.ensures.none

pub returns-in-Some : goal.returns-in-Some
returns-in-Some c =
    let xs = c.self.inside.streams.items in
    let place = c.in-Some.place in
    let new = c.end.new.self in
    let few : place < length xs = omega (arith, subst (λ b. place < length b) (sym c.self.view_is) c.in-Some.ensures.some.0) in
    let is : c.args.stream ≡ suc place = omega (arith, c.in-Some.ensures.some.1) in
    subst (λ b. slice_set xs place new ≡ ended c.args.stream c.args.messages b) c.self.view_is
    (subst (λ s. slice_set xs place new ≡ ended s c.args.messages xs) (sym is)
    (ends xs place c.index_mut.result.now new few c.index_mut.ensures.value c.args.messages c.end.ensures))
