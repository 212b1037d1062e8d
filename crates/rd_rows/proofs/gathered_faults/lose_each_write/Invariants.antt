-- What the hall of lose_each_write is set up for.
use Rattle.rd_rows.proofs.gathered_faults.lose_each_write.Given as goal

abbrev pub ghosts-lose_a_write-L-Setup : goal.ghosts-lose_a_write-L-Setup
ghosts-lose_a_write-L-Setup g a = record { app = a.app; most_moves = 10; most_entries = 10000 }

abbrev pub ghosts-lose_a_write-L-Ledger : goal.ghosts-lose_a_write-L-Ledger
ghosts-lose_a_write-L-Ledger g a = record { name = a.blank.name; parts = a.blank.parts }
