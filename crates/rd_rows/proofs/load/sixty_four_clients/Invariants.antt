-- What the hall of sixty_four_clients is set up for.
use Rattle.rd_rows.proofs.load.sixty_four_clients.Given as goal

abbrev pub ghosts-serve_all-L-Setup : goal.ghosts-serve_all-L-Setup
ghosts-serve_all-L-Setup g a = record { app = a.app; most_moves = 100; most_entries = 10000 }

abbrev pub ghosts-serve_all-L-Ledger : goal.ghosts-serve_all-L-Ledger
ghosts-serve_all-L-Ledger g a = record { name = a.blank.name; parts = a.blank.parts }
