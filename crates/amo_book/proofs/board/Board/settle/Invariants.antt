use Rattle.amo_book.specs.Pass.{event}
use Rattle.amo_book.proofs.board.Board.settle.Given as goal

abbrev pub ghosts-count : goal.ghosts-count
ghosts-count a = record { event = event a.pass a.site.side a.site.stream a.act.now.value a.reply.now }
