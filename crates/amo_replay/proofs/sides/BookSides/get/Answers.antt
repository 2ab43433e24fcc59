use Rattle.std.proofs.Common.{sym}
use Rattle.amo_object.specs.declared.step.End.TheVariants.{Receiver}
use Rattle.amo_core.specs.declared.act.Act.TheVariants as act
use Rattle.amo_book.specs.Calls.{get_answer}
use Rattle.amo_replay.proofs.Owning.{pass_belongs, pass_after, grown_same, grown_as, called_adds, called_busy}
use Rattle.amo_replay.proofs.sides.BookSides.get.Goals as goal

pub get-answer-requires : goal.get-answer-requires
get-answer-requires c = record { book = pass_belongs _ _ _ c.self.invariant _ _ c.index_mut.ensures.value }

pub invariant_of-self : goal.invariant_of-self
invariant_of-self c =
    let same = grown_same _ _ Receiver c.args.stream act.Get (get_answer c.get-answer.result) c.get-answer.ensures.grown in
    pass_after _ _ _ c.self.invariant _ _ _ c.index_mut.ensures.value same.0 same.1

pub returns-clause-added : goal.returns-clause-added
returns-clause-added c =
    rw (sym c.self.view_is)
    (called_adds _ _ _ c.self.invariant _ _ _ Receiver c.args.stream act.Get c.reply_to_get.result c.replied.result c.index_mut.ensures.value
    (grown_as _ _ Receiver c.args.stream act.Get _ _ (sym c.reply_to_get.ensures) c.get-answer.ensures.grown) c.get-answer.ensures.right (c.replied.ensures.reply, c.replied.ensures.busy))

pub returns-clause-busy : goal.returns-clause-busy
returns-clause-busy c =
    rw (sym c.self.view_is)
    (called_busy _ _ _ c.self.invariant _ _ _ Receiver c.args.stream act.Get c.reply_to_get.result c.replied.result c.index_mut.ensures.value
    (grown_as _ _ Receiver c.args.stream act.Get _ _ (sym c.reply_to_get.ensures) c.get-answer.ensures.grown) (c.replied.ensures.reply, c.replied.ensures.busy))
