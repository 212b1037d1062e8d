-- The snapshot that the fields of a `State` stand for.
use Rattle.std.specs.Prelude.{◌≡◌, length}
use Rattle.rd_state.specs.declared.state.State.TheInside.{Inside}
use Rattle.rd_state.specs.Snapshot.{Snapshot}
use Rattle.rd_state.specs.Sizes.{IsSized}

abbrev pub snapshot_of : Inside → Snapshot
snapshot_of state = record {
  tick = state.tick;
  turn = state.turn;
  cores = state.cores.items;
  ready = state.ready.tasks;
  tasks = state.tasks.items;
  objects = state.objects;
}

-- The sizes hold, and the ready list has room for every task.
pub record HasSizes (state : Inside) : Type 0 where
  pub sized : IsSized (snapshot_of state)
  pub capacity : state.ready.capacity ≡ length state.tasks.items
