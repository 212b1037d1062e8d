-- What the hall of serve is set up for.
use Rattle.rd_rows.proofs.turns.serve.Given as goal

abbrev pub ghosts-serve_two-L-Setup : goal.ghosts-serve_two-L-Setup
ghosts-serve_two-L-Setup g a = record { app = a.app; most_moves = 100; most_entries = a.history }

abbrev pub ghosts-serve_two-L-Ledger : goal.ghosts-serve_two-L-Ledger
ghosts-serve_two-L-Ledger g a = record { name = a.blank.name; parts = a.blank.parts }
