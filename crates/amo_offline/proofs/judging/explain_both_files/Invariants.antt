use Rattle.amo_offline.proofs.judging.explain_both_files.Given as goal

-- the count of failures is the blank's ledger
abbrev pub ghosts-explain_two : goal.ghosts-explain_two
ghosts-explain_two g a = record { name = a.blank.name; parts = a.blank.parts }

abbrev pub ghosts-tell_found : goal.ghosts-tell_found
ghosts-tell_found g a = record { name = a.blank.name; parts = a.blank.parts }
