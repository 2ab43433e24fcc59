use Rattle.amo_offline.proofs.telling.tell_outcomes_by_one.Given as goal

-- the count of failures is the blank's ledger
abbrev pub ghosts-write_outcomes_alone : goal.ghosts-write_outcomes_alone
ghosts-write_outcomes_alone g a = record { name = a.blank.name; parts = a.blank.parts }
