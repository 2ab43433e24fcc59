use Rattle.std.proofs.Common.{◌∷◌}
use Rattle.amo_offline.proofs.judging.audit_pieces.Goals as goal

pub loop-place-preserved : goal.loop-place-preserved
loop-place-preserved g c =
    let (pieces, come) = c.loop-place.invariant in
    let (piece, more) = c.in_default-add_piece.ensures in
    (piece ∷ pieces, more pieces come)
