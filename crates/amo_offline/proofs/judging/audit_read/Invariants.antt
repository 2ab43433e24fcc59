use Rattle.amo_offline.proofs.judging.audit_read.Given as goal

-- the count of failures is the blank's ledger
abbrev pub ghosts-audit_bytes : goal.ghosts-audit_bytes
ghosts-audit_bytes g a = record { name = a.blank.name; parts = a.blank.parts }
