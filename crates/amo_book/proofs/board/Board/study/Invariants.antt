use Rattle.amo_book.proofs.board.Board.study.Given as goal

abbrev pub ghosts-see : goal.ghosts-see
ghosts-see a = record { side = a.site.side; stream = a.site.stream }
