use Rattle.std.proofs.Common.{◌+◌, ◌∙◌, subst, arith}
use Rattle.std.proofs.lemmas.List.{take_all}
use Rattle.amo_text.proofs.Written.{within_rest}
use Rattle.amo_disk.specs.Folder.{Grows}
use Rattle.amo_disk.proofs.Rolls.{grows_more, grows_nothing, on_err}
use Rattle.amo_disk.proofs.roll.append_all.Goals as goal

pub loop-done-init : goal.loop-done-init
loop-done-init g c = record { within = omega arith; grown = grows_nothing (g.F.Folder.pieces c.args.folder.now) }

pub returns-in_err-count-clause-in_part : goal.returns-in_err-count-clause-in_part
returns-in_err-count-clause-in_part g c = on_err c.from_residual.result _ (c.loop-done.done, c.in_err-count.ensures.kept ∙ c.loop-done.invariant.grown)

pub returns-then-count-eq0-clause-in_part : goal.returns-then-count-eq0-clause-in_part
returns-then-count-eq0-clause-in_part g c = (c.loop-done.done + c.in_ok-count.count, grows_more _ _ _ c.args.bytes.now c.loop-done.done c.in_ok-count.count c.loop-done.invariant.grown c.in_ok-count.ensures.appended)

pub loop-done-preserved : goal.loop-done-preserved
loop-done-preserved g c = record {
  within = within_rest _ _ _ c.loop-done.invariant.within c.in_ok-count.ensures.bound;
  grown = grows_more _ _ _ c.args.bytes.now c.loop-done.done c.in_ok-count.count c.loop-done.invariant.grown c.in_ok-count.ensures.appended;
}

pub returns-clause-all : goal.returns-clause-all
returns-clause-all g c =
    subst (Grows (g.F.Folder.pieces c.args.folder.now) (g.F.Folder.pieces c.loop-done.folder)) (take_all c.loop-done.done c.args.bytes.now c.loop-done-test.false) c.loop-done.invariant.grown
