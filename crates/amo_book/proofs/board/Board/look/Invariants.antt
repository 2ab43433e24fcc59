use Rattle.amo_book.proofs.board.Board.look.Given as goal

abbrev pub ghosts-load_count : goal.ghosts-load_count
ghosts-load_count a = record { passes = a.self.now.setup.passes }
