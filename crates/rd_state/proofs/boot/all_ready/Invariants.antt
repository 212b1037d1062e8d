-- The tasks before this one are joined.
use Rattle.std.proofs.Common.{◌≡◌, ◌<◌, length}
use Rattle.std.specs.Prelude.{All}
use Rattle.rd_state.specs.Boot.{all_joined}
use Rattle.rd_state.proofs.boot.all_ready.Given as goal

abbrev pub invariant-loop-task : goal.invariant-loop-task
invariant-loop-task l = record {
  joined : l.ready.tasks ≡ all_joined l.priorities l.task;
  count : length l.ready.tasks ≡ l.task;
  tasks : All (λ task. task < length l.priorities) l.ready.tasks;
  capacity : l.ready.capacity ≡ length l.priorities;
}
