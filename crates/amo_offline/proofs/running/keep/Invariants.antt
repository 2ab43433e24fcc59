use Rattle.amo_offline.proofs.running.keep.Given as goal

-- the count of failures is the blank's ledger
abbrev pub ghosts-keep_through : goal.ghosts-keep_through
ghosts-keep_through g a = record { name = a.blank.name; parts = a.blank.parts }
