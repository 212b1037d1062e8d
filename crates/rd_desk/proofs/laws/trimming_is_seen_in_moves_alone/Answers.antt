-- The goal of trimming_is_seen_in_moves_alone that the check left open.
use Rattle.rd_desk.proofs.Counting.{trimming_is_seen_in_moves_alone}
use Rattle.rd_desk.proofs.laws.trimming_is_seen_in_moves_alone.Goals as goal

pub returns : goal.returns
returns c = trimming_is_seen_in_moves_alone
