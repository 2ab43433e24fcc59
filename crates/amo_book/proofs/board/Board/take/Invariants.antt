use Rattle.amo_book.proofs.board.Board.take.Given as goal

abbrev pub ghosts-try_gate : goal.ghosts-try_gate
ghosts-try_gate a = record { side = a.site.side; stream = a.site.stream }
