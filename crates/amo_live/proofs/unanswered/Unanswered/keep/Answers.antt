use Rattle.std.proofs.Common.{◌≡◌, ◌<◌, suc, length, slice_set, subst, sym, arith}
use Rattle.std.proofs.lemmas.Result.{on_ok_weaker}
use Rattle.amo_live.specs.Unanswered.{Kept, keeping}
use Rattle.amo_live.proofs.Keeping.{keeps, not_kept}
use Rattle.amo_live.proofs.unanswered.Unanswered.keep.Goals as goal

pub returns-in_default : goal.returns-in_default
returns-in_default c = not_kept c.args.stream (record { kind = c.args.kind; text = c.args.line.now }) c.args.self.now c.in_default.ensures.none

pub returns : goal.returns
returns c =
    let xs = c.self.inside.streams.items in
    let place = c.in-Some.place in
    let new = c.keep.new.self in
    let line : Kept = record { kind = c.args.kind; text = c.args.line.now } in
    let few : place < length xs = omega (arith, subst (λ b. place < length b) (sym c.self.view_is) c.in-Some.ensures.some.0) in
    let is : c.args.stream ≡ suc place = omega (arith, c.in-Some.ensures.some.1) in
    on_ok_weaker c.keep.result (λ made. subst (λ b. slice_set xs place new ≡ keeping c.args.stream line b) c.self.view_is
    (subst (λ s. slice_set xs place new ≡ keeping s line xs) (sym is) (keeps xs place c.index_mut.result.now new few c.index_mut.ensures.value line made))) c.keep.ensures
