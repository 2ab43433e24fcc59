use Rattle.amo_disk.proofs.Rolls.{headed_so, in_part_all, on_err}
use Rattle.std.proofs.Common.{◌∙◌}
use Rattle.amo_disk.proofs.roll.begin_piece.Goals as goal

pub returns-in_err-sync-2-clause-in_part : goal.returns-in_err-sync-2-clause-in_part
returns-in_err-sync-2-clause-in_part g c =
    on_err c.from_residual-in_err-sync-2.result _ (in_part_all _ _ _ (headed_so _ _ _ _ _ _ _ _ c.in_ok-sync.ensures.kept c.in_ok-close.ensures.kept c.in_ok-begin.ensures.begun c.heading.ensures c.in_ok-append_all.ensures.all c.in_err-sync-2.ensures.kept))

pub returns-in_err-sync_names-clause-in_part : goal.returns-in_err-sync_names-clause-in_part
returns-in_err-sync_names-clause-in_part g c =
    on_err c.from_residual-in_err-sync_names.result _
    (in_part_all _ _ _ (headed_so _ _ _ _ _ _ _ _ c.in_ok-sync.ensures.kept c.in_ok-close.ensures.kept c.in_ok-begin.ensures.begun c.heading.ensures c.in_ok-append_all.ensures.all (c.in_err-sync_names.ensures.kept ∙ c.in_ok-sync-2.ensures.kept)))
