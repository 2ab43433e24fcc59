use Rattle.std.proofs.Common.{sym}
use Rattle.amo_object.specs.declared.step.End.TheVariants.{Sender}
use Rattle.amo_core.specs.declared.act.Act.TheVariants as act
use Rattle.amo_book.specs.Calls.{ack_answer}
use Rattle.amo_replay.proofs.Owning.{pass_belongs, pass_after, grown_same, grown_as, called_adds, called_busy}
use Rattle.amo_replay.proofs.sides.BookSides.ack.Goals as goal

pub get_ack-answer-requires : goal.get_ack-answer-requires
get_ack-answer-requires c = record { book = pass_belongs _ _ _ c.self.invariant _ _ c.index_mut.ensures.value }

pub invariant_of-self : goal.invariant_of-self
invariant_of-self c =
    let same = grown_same _ _ Sender c.args.stream act.Ack (ack_answer c.get_ack-answer.result) c.get_ack-answer.ensures.grown in
    pass_after _ _ _ c.self.invariant _ _ _ c.index_mut.ensures.value same.0 same.1

pub returns-clause-added : goal.returns-clause-added
returns-clause-added c =
    rw (sym c.self.view_is)
    (called_adds _ _ _ c.self.invariant _ _ _ Sender c.args.stream act.Ack c.reply_to_ack.result c.replied.result c.index_mut.ensures.value
    (grown_as _ _ Sender c.args.stream act.Ack _ _ (sym c.reply_to_ack.ensures) c.get_ack-answer.ensures.grown) c.get_ack-answer.ensures.right (c.replied.ensures.reply, c.replied.ensures.busy))

pub returns-clause-busy : goal.returns-clause-busy
returns-clause-busy c =
    rw (sym c.self.view_is)
    (called_busy _ _ _ c.self.invariant _ _ _ Sender c.args.stream act.Ack c.reply_to_ack.result c.replied.result c.index_mut.ensures.value
    (grown_as _ _ Sender c.args.stream act.Ack _ _ (sym c.reply_to_ack.ensures) c.get_ack-answer.ensures.grown) (c.replied.ensures.reply, c.replied.ensures.busy))
