use Rattle.amo_tool.proofs.serving.serve_at.Given as goal

-- the counts of failures are the blanks' ledgers
abbrev pub ghosts-serve_opened-L-Ledger : goal.ghosts-serve_opened-L-Ledger
ghosts-serve_opened-L-Ledger g a = record { name = a.link.name; parts = a.link.parts }

abbrev pub ghosts-serve_opened-M-Ledger : goal.ghosts-serve_opened-M-Ledger
ghosts-serve_opened-M-Ledger g a = record { name = a.lines.name; parts = a.lines.parts }

abbrev pub ghosts-serve_opened-N-Ledger : goal.ghosts-serve_opened-N-Ledger
ghosts-serve_opened-N-Ledger g a = record { name = a.lives.name; parts = a.lives.parts }
