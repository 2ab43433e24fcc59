use Rattle.amo_offline.proofs.telling.tell_wrong.Given as goal

-- the count of failures is the blank's ledger
abbrev pub ghosts-tell_found : goal.ghosts-tell_found
ghosts-tell_found g a = record { name = a.blank.name; parts = a.blank.parts }
