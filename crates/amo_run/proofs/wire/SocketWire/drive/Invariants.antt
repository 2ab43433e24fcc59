use Rattle.amo_run.proofs.wire.SocketWire.drive.Given as goal

-- the count of failures is the blank's ledger
abbrev pub ghosts-drive_socket : goal.ghosts-drive_socket
ghosts-drive_socket g a = record { name = a.blank.name; parts = a.blank.parts }
