use Rattle.amo_book.proofs.Replies.{ack_known}
use Rattle.amo_book.proofs.book.Book.get_ack.Goals as goal

pub call-requires-clause-known : goal.call-requires-clause-known
call-requires-clause-known c = ack_known c.args.stream
