use Rattle.std.proofs.Common.{sym}
use Rattle.amo_replay.proofs.Owning.{pass_belongs, charge_belongs, charge_drives, driven_there, driven_after, suits_side}
use Rattle.amo_replay.proofs.sides.BookSides.drive.Goals as goal

pub perform-requires-clause-book : goal.perform-requires-clause-book
perform-requires-clause-book c = (
  pass_belongs _ _ _ c.self.invariant _ _ c.index_mut-pass.ensures.value,
  charge_belongs _ _ _ c.self.invariant c.args.side c.args.stream _ _ _ c.requires.stream c.place_of.ensures c.index_mut-charge.ensures.value,
)

pub perform-requires-clause-suits : goal.perform-requires-clause-suits
perform-requires-clause-suits c =
    suits_side c.index_mut-charge.result.now c.args.side c.args.act
    (charge_drives _ _ _ c.self.invariant c.args.side c.args.stream _ _ _ c.requires.stream c.place_of.ensures c.index_mut-charge.ensures.value).0 c.requires.act

pub invariant_of-self-2 : goal.invariant_of-self-2
invariant_of-self-2 c =
    driven_after _ _ _ c.self.invariant _ _ _ _ _ _ _ c.args.side c.args.stream c.args.act _ _ c.in_ok-done.done
    c.index_mut-pass.ensures.value c.requires.stream c.place_of.ensures c.index_mut-charge.ensures.value c.in_ok-done.ensures.driven

pub returns-clause-added : goal.returns-clause-added
returns-clause-added c =
    rw (sym c.self.view_is)
    (driven_there _ _ _ c.self.invariant _ _ _ _ _ _ _ c.args.side c.args.stream c.args.act _ _ c.in_ok-done.done
    c.index_mut-pass.ensures.value c.requires.stream c.place_of.ensures c.index_mut-charge.ensures.value c.in_ok-done.ensures.driven c.perform.ensures.right)
