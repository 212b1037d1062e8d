-- What grows less at each call of `Editing::settle_in` by itself.
use Rattle.rd_state.proofs.editing.Editing.+settle_in.Given as goal

abbrev pub decreases-settle_in : goal.decreases-settle_in
decreases-settle_in l = l.rounds
