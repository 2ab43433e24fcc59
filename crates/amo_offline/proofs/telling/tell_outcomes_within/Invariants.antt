use Rattle.amo_offline.proofs.telling.tell_outcomes_within.Given as goal

-- the count of failures is the blank's ledger
abbrev pub ghosts-write_outcomes : goal.ghosts-write_outcomes
ghosts-write_outcomes g a = record { name = a.blank.name; parts = a.blank.parts }
