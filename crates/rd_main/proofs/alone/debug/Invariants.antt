-- What the hall of debug is set up for.
use Rattle.rd_main.proofs.alone.debug.Given as goal

abbrev pub ghosts-begin-L-Setup : goal.ghosts-begin-L-Setup
ghosts-begin-L-Setup g a = record { app = a.app; most_moves = a.limits.moves; most_entries = a.limits.history }

abbrev pub ghosts-begin-L-Ledger : goal.ghosts-begin-L-Ledger
ghosts-begin-L-Ledger g a = record { name = a.blank.name; parts = a.blank.parts }
