use Rattle.amo_process.proofs.lines.run_host.Given as goal

-- the counts of failures are the blanks' ledgers
abbrev pub ghosts-run_opened-L-Ledger : goal.ghosts-run_opened-L-Ledger
ghosts-run_opened-L-Ledger g a = record { name = a.link.name; parts = a.link.parts }

abbrev pub ghosts-run_opened-M-Ledger : goal.ghosts-run_opened-M-Ledger
ghosts-run_opened-M-Ledger g a = record { name = a.lines.name; parts = a.lines.parts }

abbrev pub ghosts-run_opened-N-Ledger : goal.ghosts-run_opened-N-Ledger
ghosts-run_opened-N-Ledger g a = record { name = a.lives.name; parts = a.lives.parts }
