use Rattle.amo_book.proofs.Replies.{get_known}
use Rattle.amo_book.proofs.book.Book.get.Goals as goal

pub call-requires-clause-known : goal.call-requires-clause-known
call-requires-clause-known c = get_known c.args.stream
