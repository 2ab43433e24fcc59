use Rattle.amo_offline.proofs.telling.tell_outcomes_by_both.Given as goal

-- the counts of failures are the blanks' ledgers
abbrev pub ghosts-write_outcomes : goal.ghosts-write_outcomes
ghosts-write_outcomes g a = record { name = a.blank.name; parts = a.blank.parts }

abbrev pub ghosts-tell_found : goal.ghosts-tell_found
ghosts-tell_found g a = record { name = a.blank.name; parts = a.blank.parts }
