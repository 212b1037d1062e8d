-- What the hall of listen is set up for.
use Rattle.rd_main.proofs.serve.listen.Given as goal

abbrev pub ghosts-host-L-Setup : goal.ghosts-host-L-Setup
ghosts-host-L-Setup g a = record { app = a.app; most_moves = a.limits.moves; most_entries = a.limits.history }

abbrev pub ghosts-host-L-Ledger : goal.ghosts-host-L-Ledger
ghosts-host-L-Ledger g a = record { name = a.blank.name; parts = a.blank.parts }
