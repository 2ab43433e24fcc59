use Rattle.std.proofs.Common.{length, drop, ap, arith}
use Rattle.std.proofs.lemmas.Bool.Decides.{Decides-eqb}
use Rattle.std.proofs.lemmas.List.{length-append}
use Rattle.std.proofs.lemmas.Slice.Eq.{starts_is}
use Rattle.amo_disk.proofs.beginning.begins.Goals as goal

pub returns-clause-begins : goal.returns-clause-begins
returns-clause-begins c =
    let all = c.args.text.now in let front = c.args.front.now in
    let is = starts_is Decides-eqb all front c.starts_with.result c.starts_with.ensures.value in
    (λ begins. (drop (length front) all, is.0 begins), λ begins. is.1 begins.0 begins.1)

pub returns-clause-bound : goal.returns-clause-bound
returns-clause-bound c begins =
    let all = c.args.text.now in let front = c.args.front.now in
    let whole = ap length ((starts_is Decides-eqb all front c.starts_with.result c.starts_with.ensures.value).0 begins) in
    let two = length-append front (drop (length front) all) in
    omega arith
