-- What the hall of fail_each_write is set up for.
use Rattle.rd_rows.proofs.write_faults.fail_each_write.Given as goal

abbrev pub ghosts-fail_a_write-L-Setup : goal.ghosts-fail_a_write-L-Setup
ghosts-fail_a_write-L-Setup g a = record { app = a.app; most_moves = 10; most_entries = 10 }

abbrev pub ghosts-fail_a_write-L-Ledger : goal.ghosts-fail_a_write-L-Ledger
ghosts-fail_a_write-L-Ledger g a = record { name = a.blank.name; parts = a.blank.parts }
