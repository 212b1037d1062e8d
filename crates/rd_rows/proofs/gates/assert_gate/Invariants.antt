-- What the hall of assert_gate is set up for.
use Rattle.rd_rows.proofs.gates.assert_gate.Given as goal

abbrev pub ghosts-enter_and_pass-L-Setup : goal.ghosts-enter_and_pass-L-Setup
ghosts-enter_and_pass-L-Setup g a = record { app = a.app; most_moves = 10; most_entries = 5000 }

abbrev pub ghosts-enter_and_pass-L-Ledger : goal.ghosts-enter_and_pass-L-Ledger
ghosts-enter_and_pass-L-Ledger g a = record { name = a.blank.name; parts = a.blank.parts }
