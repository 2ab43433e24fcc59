use Rattle.std.proofs.Common.{◌≡◌, sym, subst}
use Rattle.std.specs.Option.{IfSome}
use Rattle.amo_live.specs.Service.{doubted}
use Rattle.amo_live.proofs.Doubting.{found_says}
use Rattle.amo_live.proofs.service.Service.lane.Goals as goal

pub returns-clause-doubt : goal.returns-clause-doubt
returns-clause-doubt g c =
    let lanes = c.args.self.now.lanes.items in let looked = c.get.ensures.lookup in let place = c.in_ok-place.ensures in
    subst (λ found. IfSome found (λ lane. lane.in_doubt ≡ doubted lanes c.args.stream)) (sym c.copied.ensures)
    (found_says _ _ lanes c.args.stream c.in_ok-place.place c.get.result place.0 place.1 (rw c.deref.ensures.value at looked.1) (rw c.deref.ensures.value at looked.3))
