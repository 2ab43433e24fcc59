use Rattle.amo_book.proofs.Replies.{put_known}
use Rattle.amo_book.proofs.book.Book.put.Goals as goal

pub call-requires-clause-known : goal.call-requires-clause-known
call-requires-clause-known c = put_known c.args.stream c.args.message
