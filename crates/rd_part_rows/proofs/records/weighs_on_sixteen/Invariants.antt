-- What holds in each turn of weighs_on_sixteen's loop.
use Rattle.rd_state.specs.Valid.{IsValid}
use Rattle.rd_part_rows.proofs.records.weighs_on_sixteen.Given as goal

abbrev pub invariant-loop-core : goal.invariant-loop-core
invariant-loop-core g l = IsValid l.app l.state
