-- What is shared in target_that_is_lent is set up for.
use Rattle.rd_rows.proofs.shared.target_that_is_lent.Given as goal

abbrev pub ghosts-entries_of_one-L-Setup : goal.ghosts-entries_of_one-L-Setup
ghosts-entries_of_one-L-Setup g a = record { app = a.app; most_moves = 10; most_entries = 10 }

abbrev pub ghosts-entries_of_one-L-Ledger : goal.ghosts-entries_of_one-L-Ledger
ghosts-entries_of_one-L-Ledger g a = record { name = a.blank.name; parts = a.blank.parts }
