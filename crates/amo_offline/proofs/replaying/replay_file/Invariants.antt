use Rattle.amo_offline.proofs.replaying.replay_file.Given as goal

-- the counts of failures are the blanks' ledgers
abbrev pub ghosts-replay_and_tell-L-Ledger : goal.ghosts-replay_and_tell-L-Ledger
ghosts-replay_and_tell-L-Ledger g a = record { name = a.transcript.name; parts = a.transcript.parts }

abbrev pub ghosts-replay_and_tell-M-Ledger : goal.ghosts-replay_and_tell-M-Ledger
ghosts-replay_and_tell-M-Ledger g a = record { name = a.telling.name; parts = a.telling.parts }
