use Rattle.amo_offline.proofs.judging.audit_two.Given as goal

-- the count of failures is the blank's ledger
abbrev pub ghosts-write_verdict : goal.ghosts-write_verdict
ghosts-write_verdict g a = record { name = a.blank.name; parts = a.blank.parts }
