-- What the hall of sit is set up for.
use Rattle.rd_scarce.proofs.hall.sit.Given as goal

abbrev pub ghosts-sit_once-L-Setup : goal.ghosts-sit_once-L-Setup
ghosts-sit_once-L-Setup g a = record { app = a.app; most_moves = 100; most_entries = 100 }

abbrev pub ghosts-sit_once-L-Ledger : goal.ghosts-sit_once-L-Ledger
ghosts-sit_once-L-Ledger g a = record { name = a.blank.name; parts = a.blank.parts }
