-- What the hall of sixty_four_seats is set up for.
use Rattle.rd_rows.proofs.hall.sixty_four_seats.Given as goal

abbrev pub ghosts-entries_of_64-L-Setup : goal.ghosts-entries_of_64-L-Setup
ghosts-entries_of_64-L-Setup g a = record { app = a.app; most_moves = 100; most_entries = 10000 }

abbrev pub ghosts-entries_of_64-L-Ledger : goal.ghosts-entries_of_64-L-Ledger
ghosts-entries_of_64-L-Ledger g a = record { name = a.blank.name; parts = a.blank.parts }
