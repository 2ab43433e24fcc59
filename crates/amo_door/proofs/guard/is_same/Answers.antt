use Rattle.std.proofs.Common.{◌≡◌, length, arith}
use Rattle.amo_door.proofs.Alike.{alike}
use Rattle.amo_door.proofs.guard.is_same.Goals as goal

pub returns : goal.returns
returns c =
    let long : length c.args.text.now ≡ length c.args.secret.now = omega arith in
    let whole : c.loop-place.place ≡ length c.args.text.now = omega arith in
    let counted = c.loop-place.invariant.none in
    alike c.args.text.now c.args.secret.now c.loop-place.differing long
    (λ none k less. counted.0 none k (omega arith), λ all. counted.1 (λ k less. all k (omega arith)))
