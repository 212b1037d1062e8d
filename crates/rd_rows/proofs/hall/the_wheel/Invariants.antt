-- What the hall of the_wheel is set up for.
use Rattle.rd_rows.proofs.hall.the_wheel.Given as goal

abbrev pub ghosts-audit_of_two-L-Setup : goal.ghosts-audit_of_two-L-Setup
ghosts-audit_of_two-L-Setup g a = record { app = a.app; most_moves = 100; most_entries = 10000 }

abbrev pub ghosts-audit_of_two-L-Ledger : goal.ghosts-audit_of_two-L-Ledger
ghosts-audit_of_two-L-Ledger g a = record { name = a.blank.name; parts = a.blank.parts }
