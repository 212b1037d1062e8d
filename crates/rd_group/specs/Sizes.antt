-- What holds of every event group.
use Rattle.std.specs.Prelude.{◌≡◌, ◌≤◌, length, All}
use Rattle.rd_group.specs.declared.group.TheConstants.{MAX_WAITERS}
use Rattle.rd_group.specs.declared.wish.TheConstants.{MAX_BITS}
use Rattle.rd_group.specs.GroupSnapshot.{GroupSnapshot}
use Rattle.rd_wait.specs.Sizes.{IsSizedList}

pub record IsSizedGroup (group : GroupSnapshot) : Type 0 where
  pub bits : group.bits ≤ MAX_BITS
  pub waiting : IsSizedList group.task_count group.waiting
  pub same_length : length group.wishes ≡ length group.waiting
  pub wishes : All (λ wish. wish.bits ≤ MAX_BITS) group.wishes
  pub few : group.task_count ≤ MAX_WAITERS
