-- What the hall of each_read_fails_in_a_hall is set up for.
use Rattle.rd_rows.proofs.read_faults.each_read_fails_in_a_hall.Given as goal

abbrev pub ghosts-fail_a_read-L-Setup : goal.ghosts-fail_a_read-L-Setup
ghosts-fail_a_read-L-Setup g a = record { app = a.app; most_moves = 10; most_entries = 20 }

abbrev pub ghosts-fail_a_read-L-Ledger : goal.ghosts-fail_a_read-L-Ledger
ghosts-fail_a_read-L-Ledger g a = record { name = a.blank.name; parts = a.blank.parts }
