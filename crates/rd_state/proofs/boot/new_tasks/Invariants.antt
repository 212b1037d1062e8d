-- What holds in each turn of `new_tasks`'s loop.
use Rattle.std.proofs.Common.{◌≡◌, replicate}
use Rattle.rd_state.specs.Boot.{fresh_task}
use Rattle.rd_state.proofs.boot.new_tasks.Given as goal

abbrev pub invariant-loop : goal.invariant-loop
invariant-loop l = l.tasks.items ≡ replicate l.counter (fresh_task l.entries)
