-- What the hall of held_at_the_reads is set up for.
use Rattle.rd_rows.proofs.together.held_at_the_reads.Given as goal

abbrev pub ghosts-beside-L-Setup : goal.ghosts-beside-L-Setup
ghosts-beside-L-Setup g a = record { app = a.app; most_moves = 100; most_entries = 100 }

abbrev pub ghosts-beside-L-Ledger : goal.ghosts-beside-L-Ledger
ghosts-beside-L-Ledger g a = record { name = a.blank.name; parts = a.blank.parts }
