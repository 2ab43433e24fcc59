use Rattle.std.proofs.Common.{sym}
use Rattle.std.proofs.lemmas.Option.{IfSome_then}
use Rattle.amo_telling.proofs.untold.Untold.outcome.Goals as goal

pub returns : goal.returns
returns c = IfSome_then c.outcome.result c.outcome.ensures.some (λ outcome told. (c.in_ok-put.put.now, sym c.in_ok-put.ensures.value, told))
