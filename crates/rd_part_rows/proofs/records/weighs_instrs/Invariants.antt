-- What holds in each turn of weighs_instrs's loop.
use Rattle.rd_state.specs.Valid.{IsValid}
use Rattle.rd_part_rows.proofs.records.weighs_instrs.Given as goal

abbrev pub invariant-loop-want : goal.invariant-loop-want
invariant-loop-want g l = IsValid l.app l.state
